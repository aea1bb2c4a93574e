use Rattle.mx_stations.proofs.SameTable.{goes_last}
use Rattle.mx_tests.proofs.workers.work_first.Goals as goal

pub returns-in_ok-push-in-Some : goal.returns-in_ok-push-in-Some
returns-in_ok-push-in-Some c = goes_last _ _ _ _ _ c.in-Some.ensures.some c.in_ok-push-in-Some.ensures.items c.work_in_vain-worked_on.ensures c.requires
