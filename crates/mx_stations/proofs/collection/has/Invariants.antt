use Rattle.std.proofs.Common.{◌≢◌}
use Rattle.mx_stations.proofs.Gathers.{Below}
use Rattle.mx_stations.proofs.collection.has.Given as goal

abbrev pub invariant-loop-station : goal.invariant-loop-station
invariant-loop-station g l = Below (λ s. s.me.node ≢ l.node) l.stations l.station-index
