use Rattle.std.proofs.Common.{suc, take}
use Rattle.mx_journal.specs.Records.{Ascending}
use Rattle.mx_member.specs.Running.{IsJoinOfNodes}
use Rattle.mx_stations.specs.Gathered.{owned_in}
use Rattle.mx_stations.proofs.collection.merge_all.Given as goal

abbrev pub invariant-loop-station : goal.invariant-loop-station
invariant-loop-station g l = record {
  join : IsJoinOfNodes (take l.station-index (owned_in l.stations)) l.all;
  ordered : Ascending (suc l.all.base.upto) l.all.records;
}
