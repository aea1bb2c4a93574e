use Rattle.std.proofs.Common.{◌≡◌, ◌≤◌, ◌+◌, ◌++◌, length, map}
use Rattle.mx_live.specs.Workers.{worker_of}
use Rattle.mx_live.proofs.threads.start_all.Given as goal

abbrev pub invariant-loop-station : goal.invariant-loop-station
invariant-loop-station g l = record {
  fit : length l.group.works + length l.station-iterator.rest.items ≤ l.group.room;
  all : l.group.works ++ map (worker_of l.orders) l.station-iterator.rest.items ≡ map (worker_of l.orders) l.fn.stations.items;
}
