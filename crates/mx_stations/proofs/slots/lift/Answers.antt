use Rattle.std.proofs.Common.{ap, Some}
use Rattle.mx_stations.proofs.Slides.{held_at}
use Rattle.mx_stations.proofs.slots.lift.Goals as goal

pub exchange-requires : goal.exchange-requires
exchange-requires g c =
    let h = c.requires.holding in
    (c.requires.link.0, (Some h.0, held_at _ _ _ _ (ap (λ m. m.1) h.1.1) c.slot_of-slot.ensures.value))
