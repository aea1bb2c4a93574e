use Rattle.std.proofs.Common.{inl, inr, ◌≡◌, ◌+◌, ◌∷◌, get_or, drop, min, ap, subst, arith}
use Rattle.std.proofs.lemmas.List.{drop_all, get_or_default}
use Rattle.mx_stamps.specs.Lists.{IsIn}
use Rattle.mx_stamps.proofs.Lists.{drop_here}
use Rattle.mx_journal.specs.declared.ranges.Range.{Range}
use Rattle.mx_merge.proofs.answers.least_first.Goals as goal

pub loop-range-preserved : goal.loop-range-preserved
loop-range-preserved c = λ range m.
    let ranges = c.args.ranges.now in
    let i = c.loop-range.range-index in
    let blank : Range = record { first = 0; last = 0 } in
    let here = get_or ranges i blank in
    let rest : drop i ranges ≡ here ∷ drop (i + 1) ranges = drop_here ranges i here c.loop-range-test.true (get_or_default ranges i blank here c.loop-range-test.true) in
    let least : c.min-least.result ≡ min c.loop-range.least here.first = c.min-least.ensures in
    elim (c.loop-range.invariant range m) [
      | inl l ↦ inl (omega (arith, least, l))
      | inr h ↦ elim (subst (λ l. IsIn range l) rest h) [
        | inl e ↦ inl (let first = ap (λ (r : Range). r.first) e in omega (arith, least, first))
        | inr n ↦ inr n
      ]
    ]

pub returns : goal.returns
returns c = λ range m. elim (c.loop-range.invariant range m) [
  | inl l ↦ l
  | inr h ↦ absurd (subst (λ l. IsIn range l) (drop_all c.loop-range.range-index c.args.ranges.now c.loop-range-test.false) h)
]
