use Rattle.std.proofs.Common.{◌≡◌, ◌++◌, ◌∷◌, suc, drop, sym, ◌∙◌, ap, arith}
use Rattle.mx_journal.specs.Records.{above}
use Rattle.mx_journal.specs.Runs.{flatten}
use Rattle.mx_journal.proofs.Going.{above_next}
use Rattle.mx_journal.proofs.Flat.{ascending_flat}
use Rattle.mx_journal.proofs.Found.{above_past, above_run, run_at}
use Rattle.mx_journal.proofs.places.next_in.Goals as goal

pub returns-then-at-runs : goal.returns-then-at-runs
returns-then-at-runs c = above_past c.args.number 1 c.args.runs.now c.requires (omega (arith, c.place_of-at.ensures.value, c.if-at-runs.true))

pub next_in_run-requires-clause-consecutive : goal.next_in_run-requires-clause-consecutive
next_in_run-requires-clause-consecutive c =
    let w = run_at 1 c.args.runs.now c.place_of-at.result c.index-runs-at.result c.requires (omega (arith, c.if-at-runs.false)) c.index-runs-at.is in w.0

pub next_in_run-requires-clause-least : goal.next_in_run-requires-clause-least
next_in_run-requires-clause-least c =
    let w = run_at 1 c.args.runs.now c.place_of-at.result c.index-runs-at.result c.requires (omega (arith, c.if-at-runs.false)) c.index-runs-at.is in w.3

pub next_in_run-requires-clause-behind : goal.next_in_run-requires-clause-behind
next_in_run-requires-clause-behind c =
    let w = above_run c.args.number 1 c.args.runs.now c.place_of-at.result c.index-runs-at.result c.requires c.place_of-at.ensures.value (omega (arith, c.if-at-runs.false)) c.index-runs-at.is in w.0

pub returns : goal.returns
returns c =
    let runs = c.args.runs.now in
    let run = c.index-runs-at.result in
    let n = c.args.number in
    let found = c.next_in_run.result.now in
    let rest = flatten (drop (suc c.place_of-at.result) runs) in
    let w = above_run n 1 runs c.place_of-at.result run c.requires c.place_of-at.ensures.value (omega (arith, c.if-at-runs.false)) c.index-runs-at.is in
    let here : above n (flatten runs) ≡ found ∷ (above found.number run ++ rest) = w.1 ∙ ap (λ l. l ++ rest) c.next_in_run.ensures in
    here ∙ ap (λ l. found ∷ l) (sym (above_next n 1 (flatten runs) found (above found.number run ++ rest) (ascending_flat 1 runs c.requires) here))
