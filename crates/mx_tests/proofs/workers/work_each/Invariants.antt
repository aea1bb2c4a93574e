use Rattle.mx_stations.specs.Gathered.{OfOneTable}
use Rattle.mx_tests.proofs.workers.work_each.Given as goal

abbrev pub invariant-loop-station : goal.invariant-loop-station
invariant-loop-station l = OfOneTable l.stations.items
