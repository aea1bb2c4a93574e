use Rattle.mx_stations.specs.Gathered.{KeepsTable}
use Rattle.mx_tests.proofs.station_calls.assert_calls.Given as goal

abbrev pub invariant-loop-i : goal.invariant-loop-i
invariant-loop-i g l = record { zero : KeepsTable l.fn.zero l.zero; one : KeepsTable l.fn.one l.one }
