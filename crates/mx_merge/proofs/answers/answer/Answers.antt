use Rattle.std.proofs.Common.{true, false, Global, ◌≡◌, ◌≤◌, ◌++◌, ◌∙◌, List, [], ◌∷◌, length, take, sym, ap, subst, arith}
use Rattle.arrayvec.specs.declared.array_vec.ArrayVec.{ArrayVec}
use Rattle.std.proofs.lemmas.Bool.Decides.{nat_tests}
use Rattle.std.proofs.lemmas.Grind.{common_steps}
use Rattle.std.proofs.lemmas.List.{take_all, take-append-le}
use Rattle.mx_stamps.proofs.Lists.{append_append, append_nil}
use Rattle.mx_stamps.proofs.Choices.{cond_true, cond_false}
use Rattle.mx_journal.specs.declared.records.Record.{Record}
use Rattle.mx_journal.specs.Agreement.{IsSubmap}
use Rattle.mx_journal.specs.Records.{above}
use Rattle.mx_journal.proofs.Settled.{from_one}
use Rattle.mx_merge.specs.Missing.{in_ranges, lies_in}
use Rattle.mx_merge.proofs.Answered.{answered_known}
use Rattle.mx_merge.proofs.Skipping.{ranges_skipped}
use Rattle.mx_merge.proofs.answers.answer.Goals.{then-is_in_some, else-is_in_some}
use Rattle.mx_merge.proofs.answers.answer.Goals as goal

pub returns-then-is_full-clause-value : goal.returns-then-is_full-clause-value
returns-then-is_full-clause-value c =
    let found = c.loop-entry.found.items in
    let left = in_ranges c.args.ranges.now (above c.loop-entry.last c.args.journal.now.records) in
    let many : 4 ≤ length found = grind (arith, nat_tests, c.is_full.ensures.value, c.if-is_full.true) in
    sym (take_all 4 found c.loop-entry.invariant.room) ∙ sym (take-append-le 4 found left many) ∙ c.loop-entry.invariant.same (from_one c.args.journal.now.base.upto c.args.journal.now.records c.next_after.ensures.ordered)

pub returns-then-is_full-clause-known : goal.returns-then-is_full-clause-known
returns-then-is_full-clause-known c =
    subst (λ l. IsSubmap l c.args.journal.now.records) (sym (returns-then-is_full-clause-value c)) (answered_known 4 c.args.ranges.now c.args.journal.now.records)

pub loop-entry-init : goal.loop-entry-init
loop-entry-init c =
    let none : c.new-found.result.items ≡ [] = c.new-found.ensures in
    record {
      same = λ order.
          ap (λ l. take 4 (l ++ in_ranges c.args.ranges.now (above c.saturating_sub-last.result c.args.journal.now.records))) none
          ∙ ap (λ l. take 4 l) (ranges_skipped c.args.ranges.now c.saturating_sub-last.result c.args.journal.now.records order (λ range h. let low = c.least_first.ensures range h in omega arith));
      room = subst (λ (l : List Record). length l ≤ 4) (sym none) (omega arith);
    }

pub loop-entry-preserved : goal.loop-entry-preserved
loop-entry-preserved c =
    let ranges = c.args.ranges.now in
    let journal = c.args.journal.now.records in
    let entry = c.in-Some.entry.now in
    let found = c.loop-entry.found.items in
    let rest = above entry.number journal in
    let same : take 4 (found ++ in_ranges ranges (entry ∷ rest)) ≡ take 4 (in_ranges ranges journal) =
    subst (λ l. take 4 (found ++ in_ranges ranges l) ≡ take 4 (in_ranges ranges journal)) c.in-Some.ensures.value (c.loop-entry.invariant.same (from_one c.args.journal.now.base.upto c.args.journal.now.records c.next_after.ensures.ordered)) in
    elim c.if-is_in_some.branch [
      | then-is_in_some w ↦
          let lies : lies_in ranges entry.number ≡ true = sym c.is_in_some.ensures ∙ w.if-is_in_some.true in
          let grown : c.if-is_in_some.found.items ≡ found ++ entry ∷ [] =
          ap (λ (v : ArrayVec Record 4 Global). v.items) w.found-is ∙ w.push.ensures.items ∙ ap (λ x. found ++ x ∷ []) w.copy.ensures in
          let more : (found ++ entry ∷ []) ++ in_ranges ranges rest ≡ found ++ in_ranges ranges (entry ∷ rest) =
          append_append found (entry ∷ []) (in_ranges ranges rest)
          ∙ ap (λ l. found ++ l) (sym (cond_true (lies_in ranges entry.number) (entry ∷ in_ranges ranges rest) (in_ranges ranges rest) lies)) in
          record {
            same = λ _. subst (λ l. take 4 (l ++ in_ranges ranges rest) ≡ take 4 (in_ranges ranges journal)) (sym grown) (ap (λ l. take 4 l) more ∙ same);
            room = subst (λ l. length l ≤ 4) (sym grown) (grind (arith, common_steps, nat_tests, c.is_full.ensures.value, c.if-is_full.false, c.loop-entry.invariant.room));
          }
      | else-is_in_some w ↦
          let lies : lies_in ranges entry.number ≡ false = sym c.is_in_some.ensures ∙ w.if-is_in_some.false in
          let kept : c.if-is_in_some.found.items ≡ found = ap (λ (v : ArrayVec Record 4 Global). v.items) w.found-is in
          let more : in_ranges ranges rest ≡ in_ranges ranges (entry ∷ rest) =
          sym (cond_false (lies_in ranges entry.number) (entry ∷ in_ranges ranges rest) (in_ranges ranges rest) lies) in
          record {
            same = λ _. subst (λ l. take 4 (l ++ in_ranges ranges rest) ≡ take 4 (in_ranges ranges journal)) (sym kept) (ap (λ l. take 4 (found ++ l)) more ∙ same);
            room = subst (λ l. length l ≤ 4) (sym kept) c.loop-entry.invariant.room;
          }
    ]

pub returns-clause-value : goal.returns-clause-value
returns-clause-value c =
    let found = c.loop-entry.found.items in
    let none = ap (λ l. found ++ in_ranges c.args.ranges.now l) c.in_default.ensures.value ∙ append_nil found in
    sym (take_all 4 found c.loop-entry.invariant.room) ∙ sym (ap (λ l. take 4 l) none) ∙ c.loop-entry.invariant.same (from_one c.args.journal.now.base.upto c.args.journal.now.records c.next_after.ensures.ordered)

pub returns-clause-known : goal.returns-clause-known
returns-clause-known c =
    subst (λ l. IsSubmap l c.args.journal.now.records) (sym (returns-clause-value c)) (answered_known 4 c.args.ranges.now c.args.journal.now.records)
