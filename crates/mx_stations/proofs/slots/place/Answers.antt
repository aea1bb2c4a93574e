use Rattle.std.proofs.Common.{arith, ap, ◌∙◌, None}
use Rattle.mx_stations.proofs.Slides.{held_at, places_at}
use Rattle.mx_stations.proofs.slots.place.Goals as goal

pub exchange-requires : goal.exchange-requires
exchange-requires g c =
    (c.requires.link.0, (None, held_at _ _ _ _ (ap (λ m. m.1) c.requires.filling.1) c.slot_of-slot.ensures.value))

pub store-requires : goal.store-requires
store-requires g c =
    let M = g.C.Exclusion in let f = c.args.field.now in let r = c.requires in let s = c.slot_of-slot.ensures in
    let x = c.exchange.ensures in
    (x.0 ∙ r.link.0, omega (arith, f.words, s.within), places_at M.core M.Good _ _ _ _ _ c.args.seat.now.me _ _ _ _ c.args.parcel _ f.key r.link.1.1 r.index r.filling x.3 s.value (ap (λ m. g.N.Next.after m.0) x.3 ∙ r.next))
