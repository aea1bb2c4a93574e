use Rattle.std.proofs.Common.{ap, ◌∙◌}
use Rattle.mx_stations.proofs.station.Station.receipts.Goals as goal

pub returns : goal.returns
returns g c = c.as_slice.ensures.value ∙ ap (λ s. s.me.receipts) c.self.view_is
