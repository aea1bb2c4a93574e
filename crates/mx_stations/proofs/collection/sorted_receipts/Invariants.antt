use Rattle.std.proofs.Common.{◌≡◌, take}
use Rattle.mx_stations.specs.Gathered.{receipts_of}
use Rattle.mx_stations.proofs.collection.sorted_receipts.Given as goal

abbrev pub invariant-loop-station : goal.invariant-loop-station
invariant-loop-station g l = l.all.items ≡ receipts_of (take l.station-index l.stations)
