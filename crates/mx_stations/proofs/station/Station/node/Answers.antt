use Rattle.std.proofs.Common.{ap, subst, ◌<◌}
use Rattle.mx_stations.proofs.station.Station.node.Goals as goal

pub returns-clause-value : goal.returns-clause-value
returns-clause-value g c = ap (λ s. s.me.node) c.self.view_is

pub returns-clause-within : goal.returns-clause-within
returns-clause-within g c = subst (λ s. c.self.inside.node < s.nodes) c.self.view_is c.self.invariant.2
