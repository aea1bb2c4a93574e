use Rattle.std.proofs.Common.{ap, ◌∙◌}
use Rattle.mx_stations.proofs.station.Station.nodes.Goals as goal

pub returns-clause-value : goal.returns-clause-value
returns-clause-value g c = ap (λ f. f.nodes) c.deref.ensures ∙ ap (λ s. s.nodes) c.self.view_is

pub returns-clause-few : goal.returns-clause-few
returns-clause-few g c = c.deref.result.now.few
