use Rattle.std.proofs.Common.{refl, rules}
use Rattle.mx_stations.proofs.worker.work.Goals as goal

pub returns-clause-works : goal.returns-clause-works
returns-clause-works g c = c.work_settling.ensures.never refl

pub work_settling-requires : goal.work_settling-requires
work_settling-requires g c = search rules
