use Rattle.std.proofs.Common.{ap, ◌∙◌}
use Rattle.mx_stations.proofs.station.Station.journal.Goals as goal

pub returns : goal.returns
returns g c = c.journal.ensures ∙ ap (λ s. s.me.member.journal) c.self.view_is
