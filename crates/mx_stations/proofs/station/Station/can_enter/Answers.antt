use Rattle.std.proofs.Common.{ap, ◌∙◌}
use Rattle.mx_stations.proofs.station.Station.can_enter.Goals as goal

pub returns : goal.returns
returns g c = c.can_enter.ensures ∙ ap (λ s. g.C.Exclusion.core.can_enter s.me.member.core) c.self.view_is
