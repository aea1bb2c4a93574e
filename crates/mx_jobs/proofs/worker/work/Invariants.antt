use Rattle.mx_jobs.specs.Rounds.{BusyRounds}
use Rattle.mx_jobs.specs.Sections.{Reaches}
use Rattle.mx_jobs.proofs.worker.work.Given as goal

abbrev pub invariant-loop-turn : goal.invariant-loop-turn
invariant-loop-turn g l =
    Reaches g.J.Job.terms g.C.Exclusion.core l.stance.pending l.fn.job l.fn.station l.job l.station
    × BusyRounds g.C.Exclusion.core (g.J.Job.terms.finished l.job) l.fn.options.settle_every l._turn l.fn.station l.station
    × g.J.Job.ready l.job
