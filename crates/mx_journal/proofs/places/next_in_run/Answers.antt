use Rattle.std.proofs.Common.{◌≡◌, ◌+◌, ◌-◌, ◌∷◌, suc, drop, sym, ◌∙◌, ap, arith}
use Rattle.mx_stamps.proofs.Lists.{drop_here}
use Rattle.mx_journal.specs.Records.{above}
use Rattle.mx_journal.specs.Runs.{first_number}
use Rattle.mx_journal.proofs.Going.{above_next}
use Rattle.mx_journal.proofs.Found.{above_consecutive, consecutive_ascends, last_of_run, some_run}
use Rattle.mx_journal.proofs.places.next_in_run.Goals as goal

pub overflow_add-number : goal.overflow_add-number
overflow_add-number c =
    omega (arith, c.first-first.ensures, c.requires.least, c.ranges.number.fits)

pub record-requires-else-number-first : goal.record-requires-else-number-first
record-requires-else-number-first c =
    let some = some_run c.args.run.now c.args.number c.requires.behind in
    let end = last_of_run c.args.run.now c.requires.consecutive some in
    omega (arith, c.first-first.ensures, c.requires.behind)

pub returns-else-number-first : goal.returns-else-number-first
returns-else-number-first c =
    let run = c.args.run.now in
    let n = c.args.number in
    let place = n - c.first-first.result + 1 in
    let found = c.record-else-number-first.result.now in
    let some = some_run run n c.requires.behind in
    let end = last_of_run run c.requires.consecutive some in
    let same : suc n - first_number run ≡ place = omega (arith, c.first-first.ensures, c.if-number-first.false) in
    let here : above n run ≡ found ∷ drop (place + 1) run =
    above_consecutive n (first_number run) run c.requires.consecutive ∙ ap (λ j. drop j run) same
    ∙ drop_here run place found (omega (arith, c.first-first.ensures, c.requires.behind)) c.record-else-number-first.ensures in
    here ∙ ap (λ l. found ∷ l) (sym (above_next n (first_number run) run found (drop (place + 1) run) (consecutive_ascends (first_number run) run c.requires.consecutive) here))
