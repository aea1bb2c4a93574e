use Rattle.std.proofs.Common.{suc, ◌≡◌, None, arith, false, length, nat_eq, refl}
use Rattle.std.proofs.lemmas.Grind.{common_steps}
use Rattle.mx_explorer.specs.Ledger.{holder}
use Rattle.mx_explorer.proofs.ledger.Ledger.came.Goals as goal

pub returns-then-ne : goal.returns-then-ne
returns-then-ne c = λ ss h.
    let free : holder ss ≡ None = grind (arith, common_steps, c.if-is_some.ensures, h.inside) in
    let other : nat_eq c.args.number (suc (length ss)) ≡ false = grind (arith, common_steps, c.if-ne.ensures, c.checked_add.ensures, h.last) in
    (rw (free, other) refl, λ none. let bad : ⊥ = cc in absurd bad)
