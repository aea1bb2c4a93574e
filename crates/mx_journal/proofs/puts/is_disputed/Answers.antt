use Rattle.std.proofs.Common.{Bool, true, false, not, ◌≡◌, inr, refl}
use Rattle.mx_stamps.proofs.Choices.{not_true}
use Rattle.mx_journal.specs.Runs.{flatten}
use Rattle.mx_journal.proofs.Beyond.{agrees_beyond, opposed_beyond}
use Rattle.mx_journal.proofs.puts.is_disputed.Goals as goal

not_false : (b : Bool) → not b ≡ false → b ≡ true
not_false true e = refl
not_false false e = let bad : ⊥ = cc in absurd bad

pub returns-then-entry-from-clause-opposed : goal.returns-then-entry-from-clause-opposed
returns-then-entry-from-clause-opposed c = λ t. (
  c.if-entry-from.true,
  opposed_beyond c.args.from c.args.entry.now (flatten c.args.runs.now) c.args.list.now c.if-entry-from.true (c.agrees_in_both.ensures.opposed (not_true c.agrees_in_both.result t)),
)

pub returns-then-entry-from-clause-agrees : goal.returns-then-entry-from-clause-agrees
returns-then-entry-from-clause-agrees c = λ f.
    inr (agrees_beyond c.args.from c.args.entry.now (flatten c.args.runs.now) c.args.list.now (c.agrees_in_both.ensures.agrees (not_false c.agrees_in_both.result f)))
