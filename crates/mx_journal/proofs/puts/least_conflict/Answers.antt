use Rattle.std.proofs.Common.{◌∙◌, Some, inl, inr, [], ◌∷◌, ◌++◌, take, subst, sym, ap, arith}
use Rattle.std.proofs.lemmas.List.{take_all}
use Rattle.mx_stamps.proofs.Lists.{in_at, in_right, take_here}
use Rattle.mx_stamps.proofs.Choices.{dec_le}
use Rattle.mx_journal.specs.Runs.{flatten}
use Rattle.mx_journal.specs.Searches.{lower_of}
use Rattle.mx_journal.specs.Settled.{beyond}
use Rattle.mx_journal.proofs.Beyond.{beyond_has, beyond_more, beyond_same}
use Rattle.mx_journal.proofs.Disputes.{IsLeastSoFar, none_says, so_far_agrees, so_far_opposed, some_says}
use Rattle.mx_journal.proofs.Flat.{ascending_flat}
use Rattle.mx_journal.proofs.puts.least_conflict.Goals.{else-is_disputed, then-is_disputed}
use Rattle.mx_journal.proofs.puts.least_conflict.Goals as goal

pub is_disputed-requires-clause-member : goal.is_disputed-requires-clause-member
is_disputed-requires-clause-member c =
    in_at c.args.list.now c.loop-entry.entry-index c.entry-item.result c.loop-entry-test.true c.entry-item.is

pub loop-entry-preserved : goal.loop-entry-preserved
loop-entry-preserved c =
    let list = c.args.list.now in
    let here = flatten c.args.runs.now in
    let from = c.args.from in
    let all = here ++ beyond from list in
    let entry = c.entry-item.result in
    let done = take c.loop-entry.entry-index list in
    let more = ap (λ l. beyond from l) (take_here list c.loop-entry.entry-index entry c.loop-entry-test.true c.entry-item.is) in
    let inside = in_at list c.loop-entry.entry-index entry c.loop-entry-test.true c.entry-item.is in
    subst (λ d. IsLeastSoFar c.if-is_disputed.least d all) (sym more)
    (elim c.if-is_disputed.branch [
      | then-is_disputed w ↦
          let both = c.is_disputed.ensures.opposed w.if-is_disputed.true in
          subst (λ o. IsLeastSoFar o (beyond from (done ++ entry ∷ [])) all) (ap (λ k. Some k) (sym w.lower.ensures) ∙ sym w.least-is)
          (subst (λ d. IsLeastSoFar (Some (lower_of c.loop-entry.least entry.number)) d all) (sym (beyond_more from done entry both.0))
          (so_far_opposed c.loop-entry.least (beyond from done) all entry c.loop-entry.invariant (in_right entry here (beyond from list) (beyond_has from list entry inside both.0)) both.1))
      | else-is_disputed w ↦
          subst (λ o. IsLeastSoFar o (beyond from (done ++ entry ∷ [])) all) (sym w.least-is)
          (elim (c.is_disputed.ensures.agrees w.if-is_disputed.false) [
            | inl low ↦ subst (λ d. IsLeastSoFar c.loop-entry.least d all) (sym (beyond_same from done entry low)) c.loop-entry.invariant
            | inr agrees ↦ elim (dec_le entry.number from) [
              | inl low ↦ subst (λ d. IsLeastSoFar c.loop-entry.least d all) (sym (beyond_same from done entry low)) c.loop-entry.invariant
              | inr high ↦ subst (λ d. IsLeastSoFar c.loop-entry.least d all) (sym (beyond_more from done entry high))
                  (so_far_agrees c.loop-entry.least (beyond from done) all entry c.loop-entry.invariant agrees)
            ]
          ])
    ])

-- the whole list was gone through
whole : (c : goal.After-loop-entry) → IsLeastSoFar c.loop-entry.least (beyond c.args.from c.args.list.now) (flatten c.args.runs.now ++ beyond c.args.from c.args.list.now)
whole c =
    subst (λ d. IsLeastSoFar c.loop-entry.least (beyond c.args.from d) (flatten c.args.runs.now ++ beyond c.args.from c.args.list.now))
    (take_all c.loop-entry.entry-index c.args.list.now (omega (arith, c.loop-entry-test.false))) c.loop-entry.invariant

pub returns-clause-some : goal.returns-clause-some
returns-clause-some c =
    some_says c.loop-entry.least (flatten c.args.runs.now) (beyond c.args.from c.args.list.now) (ascending_flat 1 c.args.runs.now c.requires) (whole c)

pub returns-clause-none : goal.returns-clause-none
returns-clause-none c =
    none_says c.loop-entry.least (flatten c.args.runs.now) (beyond c.args.from c.args.list.now) (ascending_flat 1 c.args.runs.now c.requires) (whole c)
