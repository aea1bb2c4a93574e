use Rattle.std.proofs.Common.{◌≡◌, None}
use Rattle.mx_stations.specs.Turns.{Goes}
use Rattle.mx_stations.proofs.Turning.{Few, TookSoFar}
use Rattle.mx_stations.proofs.station.Station.take_each.Given as goal

abbrev pub invariant-loop-index : goal.invariant-loop-index
invariant-loop-index g l = record {
  far : TookSoFar g.C.Exclusion.core l.index l.fn.report l.report l.fn.self l.self;
  goes : Goes g.C.Exclusion.core l.fn.self l.self;
  empty : l.self.me.hand ≡ None;
  nodes : l.self.nodes ≡ l.fn.self.nodes;
  few : Few l.index l.report;
}
