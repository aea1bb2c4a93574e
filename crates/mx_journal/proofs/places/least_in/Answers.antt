use Rattle.std.proofs.Common.{◌≡◌, ◌-◌, ◌<◌, ◌∙◌, [], ◌∷◌, ◌++◌, length, take, sym, ap, subst, arith}
use Rattle.std.proofs.lemmas.Bool.Decides.{nat_tests}
use Rattle.mx_journal.specs.Records.{Ascending, above, in_range}
use Rattle.mx_journal.specs.Runs.{flatten}
use Rattle.mx_journal.proofs.Flat.{ascending_flat}
use Rattle.mx_journal.proofs.Going.{above_more, ascending_rest_above}
use Rattle.mx_journal.proofs.Seeking.{in_range_here, in_range_none, in_range_skipped, taken_all, taken_enough, taken_more}
use Rattle.mx_journal.proofs.places.least_in.Goals.{then-entry-range-via-then-entry-range, then-entry-range-via-else-entry-range+then-is_full}
use Rattle.mx_journal.proofs.places.least_in.Goals as goal

pub loop-entry-init : goal.loop-entry-init
loop-entry-init c =
    let all = flatten c.args.runs.now in
    let rest = in_range c.args.range (above c.saturating_sub-last.result all) in record {
      same = ap (λ l. l ++ take (4 - length l) rest) c.new-found.ensures
          ∙ ap (λ l. take 4 l) (in_range_skipped c.args.range c.saturating_sub-last.result all (ascending_flat 1 c.args.runs.now c.requires) (omega (arith, c.saturating_sub-last.ensures)));
      low = omega (arith, c.saturating_sub-last.ensures);
    }

pub loop-entry-preserved : goal.loop-entry-preserved
loop-entry-preserved c =
    let all = flatten c.args.runs.now in
    let range = c.args.range in
    let entry = c.in-Some.entry.now in
    let rest = in_range range (above entry.number all) in
    let found = c.loop-entry.found.items in
    let grown : c.push.new.self.items ≡ found ++ entry ∷ [] = c.push.ensures.items ∙ ap (λ x. found ++ x ∷ []) c.copy.ensures in
    let room : length found < 4 = grind (arith, nat_tests, c.is_full.ensures.value, c.if-is_full.false, c.is_full.ensures.fits) in
    let high = above_more c.loop-entry.last all entry (above entry.number all) c.in-Some.ensures in
    record {
      same = subst (λ l. l ++ take (4 - length l) rest ≡ take 4 (in_range range all)) (sym grown)
          (sym (taken_more 4 found entry rest room)
          ∙ ap (λ l. found ++ take (4 - length found) l) (sym (ap (λ l. in_range range l) c.in-Some.ensures ∙ in_range_here range entry (above entry.number all) (omega (arith, c.loop-entry.invariant.low)) c.if-entry-range.false))
          ∙ c.loop-entry.invariant.same);
      low = omega (arith, c.loop-entry.invariant.low);
    }

pub returns-then-entry-range : goal.returns-then-entry-range
returns-then-entry-range c =
    let all = flatten c.args.runs.now in
    let range = c.args.range in
    let entry = c.in-Some.entry.now in
    let found = c.loop-entry.found.items in
    let left = in_range range (above c.loop-entry.last all) in
    let stop : found ++ take (4 - length found) left ≡ found = elim c.then-entry-range.branch [
      | then-entry-range-via-then-entry-range w ↦
          let order : Ascending entry.number (entry ∷ above entry.number all) =
          (omega arith, ascending_rest_above entry.number 1 all (ascending_flat 1 c.args.runs.now c.requires)) in
          taken_all 4 found left (ap (λ l. in_range range l) c.in-Some.ensures ∙ in_range_none range entry.number (entry ∷ above entry.number all) order w.if-entry-range.true)
      | then-entry-range-via-else-entry-range+then-is_full w ↦ taken_enough 4 found left (grind (arith, nat_tests, w.is_full.ensures.value, w.if-is_full.true))
    ] in
    sym stop ∙ c.loop-entry.invariant.same

pub returns : goal.returns
returns c =
    let found = c.loop-entry.found.items in
    let left = in_range c.args.range (above c.loop-entry.last (flatten c.args.runs.now)) in
    sym (taken_all 4 found left (ap (λ l. in_range c.args.range l) c.in_default.ensures)) ∙ c.loop-entry.invariant.same
