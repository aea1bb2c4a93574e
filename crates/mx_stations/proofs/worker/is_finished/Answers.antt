use Rattle.mx_stamps.proofs.Choices.{not_both}
use Rattle.mx_stations.proofs.worker.is_finished.Goals as goal

pub returns-then-is_inside : goal.returns-then-is_inside
returns-then-is_inside g c = record { enough = λ t. cc; outside = λ t. cc }

pub returns : goal.returns
returns g c = record { enough = c.has_sections.ensures.0; outside = λ t inside. not_both _ (c.is_inside.ensures.1 inside) c.if-is_inside.false }
