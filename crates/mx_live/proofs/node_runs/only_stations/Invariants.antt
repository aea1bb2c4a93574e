use Rattle.std.proofs.Common.{◌≡◌, ◌++◌}
use Rattle.mx_live.specs.Workers.{stations_of}
use Rattle.mx_live.proofs.node_runs.only_stations.Given as goal

abbrev pub invariant-loop-one : goal.invariant-loop-one
invariant-loop-one g l = l.stations.items ++ stations_of l.one-iterator.rest.items ≡ stations_of l.fn.left.items
