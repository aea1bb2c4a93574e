use Rattle.std.proofs.Common.{suc, max, inl, refl, nat_lt, ◌≡◌, ◌≤◌, ◌+◌, ◌-◌, ◌++◌, ◌∙◌, ◌∷◌, take, sym, ap, subst, arith}
use Rattle.std.proofs.lemmas.Bool.Decides.{nat_tests}
use Rattle.mx_stamps.specs.Lists.{IsIn}
use Rattle.mx_stamps.proofs.Lists.{append_append, cut_twice, cut_full}
use Rattle.mx_stamps.proofs.Choices.{lt_is, lt_not, cond_true, cond_false}
use Rattle.mx_journal.specs.Records.{above}
use Rattle.mx_journal.specs.Gapless.{first_missing}
use Rattle.mx_journal.proofs.Found.{in_above}
use Rattle.mx_journal.proofs.Maps.{ascending_above}
use Rattle.mx_journal.proofs.Going.{above_above, above_more, ascending_rest_above}
use Rattle.mx_merge.specs.Missing.{IsListOfGaps, gap_after, gaps_above}
use Rattle.mx_merge.proofs.GapLists.{first_gaps}
use Rattle.mx_merge.proofs.Skipping.{first_after, gapless_high, gaps_skipped}
use Rattle.mx_merge.proofs.gaps.missing.Goals.{in-Some+then-entry-limit, then-entry-limit-via-then-entry-limit, then-entry-limit-via-else-entry-limit+then-is_full, in_default}
use Rattle.mx_merge.proofs.gaps.missing.Goals as goal

pub loop-entry-init : goal.loop-entry-init
loop-entry-init c = λ order.
    let journal = c.args.journal.now.records in
    let base = c.args.journal.now.base.upto in
    let known = c.gapless_to-last.result in
    let first : first_missing (suc base) journal ≡ suc known = sym c.gapless_to-last.ensures.value ∙ (let q : known + 1 ≡ suc known = omega arith in q) in
    let same : gaps_above known c.args.limit (above known journal) ≡ gaps_above base c.args.limit journal = gaps_skipped base known c.args.limit journal order first in
    ap (λ l. take 8 (l ++ gaps_above known c.args.limit (above known journal))) c.new-gaps.ensures ∙ ap (λ l. take 8 l) same

pub overflow_sub-entry : goal.overflow_sub-entry
overflow_sub-entry c =
    let low = above_more c.loop-entry.last c.args.journal.now.records c.in-Some.entry.now (above c.in-Some.entry.now.number c.args.journal.now.records) c.in-Some.ensures.value in
    omega arith

-- up to which number none is missing behind the record
goes_on : (c : goal.After-gapless_after-last) → c.gapless_after-last.result + 1 ≡ first_missing (c.in-Some.entry.now.number + 1) (above c.in-Some.entry.now.number c.args.journal.now.records)
goes_on c =
    let journal = c.args.journal.now.records in
    let base = c.args.journal.now.base.upto in
    let entry = c.in-Some.entry.now in
    let low = ascending_above (suc base) journal c.next_after.ensures.ordered entry (in_above c.loop-entry.last journal entry (subst (λ l. IsIn entry l) (sym c.in-Some.ensures.value) (inl refl))) in
    let same : max entry.number base ≡ entry.number = omega arith in
    c.gapless_after-last.ensures ∙ ap (λ n. first_missing (n + 1) (above n journal)) same

pub loop-entry-smaller : goal.loop-entry-smaller
loop-entry-smaller c =
    let journal = c.args.journal.now.records in
    let low = above_more c.loop-entry.last journal c.in-Some.entry.now (above c.in-Some.entry.now.number journal) c.in-Some.ensures.value in
    let high = gapless_high c.in-Some.entry.now.number c.gapless_after-last.result journal (goes_on c) in
    omega (arith, c.if-entry-limit.false)

pub loop-entry-preserved : goal.loop-entry-preserved
loop-entry-preserved c = λ order.
    let journal = c.args.journal.now.records in
    let limit = c.args.limit in
    let entry = c.in-Some.entry.now in
    let gaps = c.loop-entry.gaps.items in
    let gap = gap_after c.loop-entry.last (entry.number - 1) in
    let next = c.gapless_after-last.result in
    let more = gaps_above entry.number limit (above entry.number journal) in
    let high : entry.number ≤ next = gapless_high entry.number next journal (goes_on c) in
    let skipped : gaps_above next limit (above next journal) ≡ more =
    ap (λ l. gaps_above next limit l) (sym (above_above entry.number next journal high))
    ∙ gaps_skipped entry.number next limit (above entry.number journal) (ascending_rest_above entry.number (suc c.args.journal.now.base.upto) journal order) (first_after entry.number next journal (goes_on c)) in
    let split : gaps_above c.loop-entry.last limit (entry ∷ above entry.number journal) ≡ gap ++ more =
    cond_false (nat_lt limit entry.number) (gap_after c.loop-entry.last limit) (gap ++ more) (lt_not limit entry.number c.if-entry-limit.false) in
    ap (λ l. take 8 (c.add_gap.new.gaps.items ++ l)) skipped
    ∙ ap (λ l. take 8 (l ++ more)) c.add_gap.ensures ∙ cut_twice 8 (gaps ++ gap) more ∙ ap (λ l. take 8 l) (append_append gaps gap more)
    ∙ ap (λ l. take 8 (gaps ++ l)) (sym (ap (λ l. gaps_above c.loop-entry.last limit l) c.in-Some.ensures.value ∙ split)) ∙ c.loop-entry.invariant order

pub returns-clause-value : goal.returns-clause-value
returns-clause-value c =
    let journal = c.args.journal.now.records in
    let gaps = c.loop-entry.gaps.items in
    let left = gaps_above c.loop-entry.last c.args.limit (above c.loop-entry.last journal) in
    let last = gap_after c.loop-entry.last c.args.limit in
    let rest : take 8 (gaps ++ last) ≡ take 8 (gaps ++ left) = elim c.match-next_after.branch [
      | in_default w ↦ ap (λ l. take 8 (gaps ++ gaps_above c.loop-entry.last c.args.limit l)) (sym w.in_default.ensures.value)
      | in-Some+then-entry-limit v ↦ elim v.then-entry-limit.branch [
        | then-entry-limit-via-then-entry-limit w ↦
            let entry = v.in-Some.entry.now in
            let more = above entry.number journal in
            ap (λ l. take 8 (gaps ++ l)) (sym (ap (λ l. gaps_above c.loop-entry.last c.args.limit l) v.in-Some.ensures.value
            ∙ cond_true (nat_lt c.args.limit entry.number) last (gap_after c.loop-entry.last (entry.number - 1) ++ gaps_above entry.number c.args.limit more) (lt_is c.args.limit entry.number w.if-entry-limit.true)))
        | then-entry-limit-via-else-entry-limit+then-is_full w ↦
            cut_full 8 gaps last left (grind (arith, nat_tests, w.is_full.ensures.value, w.if-is_full.true))
      ]
    ] in
    c.add_gap-2.ensures ∙ rest ∙ c.loop-entry.invariant c.next_after.ensures.ordered

pub returns-clause-gaps : goal.returns-clause-gaps
returns-clause-gaps c =
    subst (λ l. IsListOfGaps 8 c.args.limit c.args.journal.now l) (sym (returns-clause-value c)) (first_gaps 8 c.args.limit c.args.journal.now c.next_after.ensures.ordered)
