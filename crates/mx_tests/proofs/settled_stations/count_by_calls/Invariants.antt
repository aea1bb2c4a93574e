use Rattle.mx_stations.specs.Gathered.{KeepsTable}
use Rattle.mx_tests.proofs.settled_stations.count_by_calls.Given as goal

abbrev pub invariant-loop-turn : goal.invariant-loop-turn
invariant-loop-turn g l = KeepsTable l.fn.station l.station
