use Rattle.std.proofs.Common.{rules, ap, ◌∙◌}
use Rattle.mx_stations.proofs.station.Station.phase.Goals as goal

pub phase-requires : goal.phase-requires
phase-requires g c = search rules

pub returns-clause-value : goal.returns-clause-value
returns-clause-value g c = c.phase.ensures.value ∙ ap (λ s. g.C.Exclusion.core.phase s.me.member.core) c.self.view_is

pub returns-clause-numbered : goal.returns-clause-numbered
returns-clause-numbered g c = c.phase.ensures.numbered
