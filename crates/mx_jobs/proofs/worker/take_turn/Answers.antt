use Rattle.mx_stations.proofs.Leaving.{has_turned}
use Rattle.mx_jobs.specs.declared.tries.JobFault.{JobFault}
use Rattle.mx_jobs.specs.Sections.{Fails}
use Rattle.mx_jobs.proofs.Advancing.{turned}
use Rattle.mx_jobs.proofs.Rounding.{err_then, one_round}
use Rattle.mx_jobs.proofs.worker.take_turn.Goals as goal

pub returns-clause-reaches : goal.returns-clause-reaches
returns-clause-reaches g c = λ first from so_far.
    turned g.J.Job.terms g.C.Exclusion.core g.met.C.Exclusion.phases c.args.every _ _ _ _ _ _ _ _ c.turn-report.ensures.goes c.settle_if_due.ensures (c.in_ok-idle.ensures.reaches first from so_far)

pub returns-clause-round : goal.returns-clause-round
returns-clause-round g c = λ first from so_far.
    let report = c.turn-report.ensures in
    one_round g.C.Exclusion.core c.args.every _ c.in_ok-idle.idle _ _ _ _ c.receipts-before.ensures c.in_ok-idle.ensures.serves (c.in_ok-idle.ensures.able first from so_far)
    (has_turned g.C.Exclusion.core c.turn-report.result _ _ report.turns report.goes report.kept) c.settle_if_due.ensures

pub returns-in_err-idle-clause-fails : goal.returns-in_err-idle-clause-fails
returns-in_err-idle-clause-fails g c = λ first from so_far.
    err_then (λ (w : JobFault). Fails g.J.Job.terms g.C.Exclusion.core w first from c.act.new.job c.act.new.station)
    c.from_residual.result c.in_err-idle.field-0.0 c.from_residual.ensures.1 (c.in_err-idle.ensures.fails first from so_far)

pub settle_if_due-requires : goal.settle_if_due-requires
settle_if_due-requires g c = search (c.requires-raw)

pub turn-report-requires : goal.turn-report-requires
turn-report-requires g c = search (c.requires-raw)

pub before_turn-requires : goal.before_turn-requires
before_turn-requires g c = search (c.requires-raw)

pub after_turn-requires : goal.after_turn-requires
after_turn-requires g c = search (c.requires-raw)

pub phase-requires : goal.phase-requires
phase-requires g c = search (c.requires-raw)
