use Rattle.std.proofs.Common.{◌-◌, slice_set, ◌∙◌, ap, arith}
use Rattle.mx_journal.proofs.Answering.{on_err}
use Rattle.mx_journal.proofs.PutRuns.{set_back}
use Rattle.mx_journal.proofs.places.insert_between.Goals as goal

pub returns-then-is_err-clause-err : goal.returns-then-is_err-clause-err
returns-then-is_err-clause-err c =
    let runs = c.args.runs.now.items in
    let at = c.args.at in
    let empty = c.replace-next.new.dest in
    let run = c.index_mut-run.result.now in
    let next = c.index_mut.result.now in
    on_err c.join-joined.result c.join-joined.ensures.err c.join-joined.ensures.next (λ e f.
    ap (λ q. slice_set (slice_set (slice_set runs at empty) (at - 1) q) at c.join-joined.new.next) e
    ∙ ap (λ q. slice_set (slice_set (slice_set runs at empty) (at - 1) run) at q) (f ∙ c.replace-next.ensures.value)
    ∙ set_back runs (at - 1) at empty run next (omega (arith, c.requires.first, c.requires.second)) c.requires.second c.index_mut-run.ensures.value c.index_mut.ensures.value)
