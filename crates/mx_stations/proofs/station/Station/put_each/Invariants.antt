use Rattle.std.specs.Prelude.{◌≡◌, ◌≤◌, length}
use Rattle.mx_stations.specs.Posts.{turned}
use Rattle.mx_stations.specs.Turns.{Goes}
use Rattle.mx_stations.proofs.Turning.{PutSoFar}
use Rattle.mx_stations.proofs.station.Station.put_each.Given as goal

abbrev pub invariant-loop-index : goal.invariant-loop-index
invariant-loop-index g l = record {
  far : PutSoFar g.C.Exclusion.core l.index l.fn.report l.report l.fn.self (turned l.index l.kept l.self);
  goes : Goes g.C.Exclusion.core l.fn.self (turned l.index l.kept l.self);
  low : l.kept ≤ l.index;
  few : (l.report.put ≤ l.index) × (l.report.full ≤ l.index);
  many : length l.self.waiting ≡ length l.fn.self.waiting;
}
