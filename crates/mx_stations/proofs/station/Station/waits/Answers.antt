use Rattle.std.proofs.Common.{ap, ◌∙◌, length}
use Rattle.mx_stations.proofs.station.Station.waits.Goals as goal

pub returns-clause-count : goal.returns-clause-count
returns-clause-count g c = c.len.ensures.value ∙ ap (λ p. length p.waiting) c.self.view_is
