use Rattle.std.proofs.Common.{◌≡◌, inl, inr, [], ◌∷◌, take, subst, ap, refl, arith}
use Rattle.std.proofs.lemmas.List.{take_all}
use Rattle.mx_stamps.specs.Lists.{IsIn}
use Rattle.mx_stamps.proofs.Lists.{in_append, in_at, take_here}
use Rattle.mx_journal.specs.declared.records.Record.{Record}
use Rattle.mx_journal.specs.Records.{IsNumbered}
use Rattle.mx_journal.proofs.puts.has_zero.Goals as goal

pub returns-then-entry-eq0-clause-there : goal.returns-then-entry-eq0-clause-there
returns-then-entry-eq0-clause-there c =
    let entry = c.entry-item.result in
    (λ _. (entry, in_at c.args.list.now c.loop-entry.entry-index entry c.loop-entry-test.true c.entry-item.is, c.if-entry-eq0.true), λ _. refl)

pub loop-entry-preserved : goal.loop-entry-preserved
loop-entry-preserved c = λ x h.
    let list = c.args.list.now in
    let entry = c.entry-item.result in
    let k = c.loop-entry.entry-index in
    elim (in_append x (take k list) (entry ∷ []) (subst (λ l. IsIn x l) (take_here list k entry c.loop-entry-test.true c.entry-item.is) h)) [
      | inl m ↦ c.loop-entry.invariant x m
      | inr (inl e) ↦ (let q : x.number ≡ entry.number = ap (λ (z : Record). z.number) e in let n = c.if-entry-eq0.false in omega arith)
      | inr (inr bad) ↦ absurd bad
    ]

pub returns-clause-numbered : goal.returns-clause-numbered
returns-clause-numbered c = λ _.
    subst (λ l. IsNumbered l) (take_all c.loop-entry.entry-index c.args.list.now (omega (arith, c.loop-entry-test.false))) c.loop-entry.invariant

pub returns-clause-there : goal.returns-clause-there
returns-clause-there c =
    let numbered : IsNumbered c.args.list.now = subst (λ l. IsNumbered l) (take_all c.loop-entry.entry-index c.args.list.now (omega (arith, c.loop-entry-test.false))) c.loop-entry.invariant in
    (λ t. let bad : ⊥ = cc in absurd bad, λ w. absurd (let l = numbered w.0 w.1 in let e = w.2 in omega arith))
