use Rattle.std.proofs.Common.{◌≡◌}
use Rattle.mx_nodelaws.specs.Core.{IsInside}
use Rattle.mx_stations.proofs.Gathers.{Below}
use Rattle.mx_stations.proofs.collection.has_inside.Given as goal

abbrev pub invariant-loop-station : goal.invariant-loop-station
invariant-loop-station g l = Below (λ s. s.me.node ≡ l.node → IsInside g.C.Exclusion.core s.me.member.core → ⊥) l.stations l.station-index
