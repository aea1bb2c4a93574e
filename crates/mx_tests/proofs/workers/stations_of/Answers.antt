use Rattle.mx_stations.proofs.SameTable.{fresh_table}
use Rattle.mx_tests.proofs.workers.stations_of.Goals as goal

pub returns : goal.returns
returns c = fresh_table _ _ c.in_ok-all.all.items c.in_ok-all.ensures
