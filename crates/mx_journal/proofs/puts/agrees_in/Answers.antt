use Rattle.std.proofs.Common.{inl, inr, [], ◌∷◌, take, subst, sym, ◌∙◌, ap, arith}
use Rattle.std.proofs.lemmas.List.{take_all}
use Rattle.mx_stamps.specs.Lists.{IsIn}
use Rattle.mx_stamps.proofs.Lists.{in_append, in_at, take_here}
use Rattle.mx_journal.specs.declared.records.Record.{Record}
use Rattle.mx_journal.specs.Agreement.{AgreesWith}
use Rattle.mx_journal.proofs.puts.agrees_in.Goals.{else-other-entry-via-then-other-entry+else-not-is, else-other-entry-via-else-other-entry}
use Rattle.mx_journal.proofs.puts.agrees_in.Goals as goal

pub returns-then-not-is-clause-opposed : goal.returns-then-not-is-clause-opposed
returns-then-not-is-clause-opposed c = λ _.
    let other = c.other-item.result in
    (other, in_at c.args.list.now c.loop-other.other-index other c.loop-other-test.true c.other-item.is, c.if-other-entry.true, λ e. let s = c.is.ensures.1 e in let bad : ⊥ = cc in bad)

pub loop-other-preserved : goal.loop-other-preserved
loop-other-preserved c = λ x h n.
    let list = c.args.list.now in
    let other = c.other-item.result in
    let k = c.loop-other.other-index in
    elim (in_append x (take k list) (other ∷ []) (subst (λ l. IsIn x l) (take_here list k other c.loop-other-test.true c.other-item.is) h)) [
      | inl m ↦ c.loop-other.invariant x m n
      | inr (inl e) ↦ elim c.else-other-entry.branch [
        | else-other-entry-via-then-other-entry+else-not-is w ↦ e ∙ w.is.ensures.0 w.if-not-is.false
        | else-other-entry-via-else-other-entry w ↦ absurd (w.if-other-entry.false (ap (λ (z : Record). z.number) (sym e) ∙ n))
      ]
      | inr (inr bad) ↦ absurd bad
    ]

pub returns-clause-agrees : goal.returns-clause-agrees
returns-clause-agrees c = λ _.
    subst (λ l. AgreesWith c.args.entry.now l) (take_all c.loop-other.other-index c.args.list.now (omega (arith, c.loop-other-test.false))) c.loop-other.invariant
