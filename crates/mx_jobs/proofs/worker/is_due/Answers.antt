use Rattle.std.proofs.Common.{sym, ◌∙◌}
use Rattle.mx_jobs.proofs.Able.{inside_able, waiting_able}
use Rattle.mx_jobs.proofs.worker.is_due.Goals as goal

pub returns-in-Waiting : goal.returns-in-Waiting
returns-in-Waiting g c = λ not. waiting_able g.C.Exclusion.core g.met.C.Exclusion.phases c.args.station.now (sym c.phase.ensures.value ∙ c.in-Waiting.is) (sym c.can_enter.ensures ∙ not)

pub returns-in-Inside : goal.returns-in-Inside
returns-in-Inside g c = λ not. inside_able g.C.Exclusion.core g.met.C.Exclusion.phases c.in-Inside.field-0 c.args.station.now (sym c.phase.ensures.value ∙ c.in-Inside.is)
