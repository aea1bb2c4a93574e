use Rattle.mx_live.proofs.SectionLemmas.{serial}
use Rattle.mx_live.proofs.node_runs.gather_all.Goals as goal

pub returns-in-Ok-clause-serial : goal.returns-in-Ok-clause-serial
returns-in-Ok-clause-serial g c = serial _ _ _ c.in-Ok.ensures.ok

pub returns-in-Ok-clause-gathered : goal.returns-in-Ok-clause-gathered
returns-in-Ok-clause-gathered g c = c.in-Ok.ensures.ok
