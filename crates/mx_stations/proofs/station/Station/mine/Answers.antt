use Rattle.std.proofs.Common.{ap, ◌∙◌}
use Rattle.mx_stations.proofs.station.Station.mine.Goals as goal

pub returns-clause-value : goal.returns-clause-value
returns-clause-value g c = c.mine.ensures.value ∙ ap (λ s. g.C.Exclusion.core.mine s.me.member.core) c.self.view_is

pub returns-clause-high : goal.returns-clause-high
returns-clause-high g c = c.mine.ensures.high
