use Rattle.std.proofs.Common.{arith}
use Rattle.mx_stations.proofs.Slides.{releases_at}
use Rattle.mx_stations.proofs.slots.release.Goals as goal

pub store-requires : goal.store-requires
store-requires g c =
    let M = g.C.Exclusion in let f = c.args.field.now in let r = c.requires in let s = c.slot_of-slot.ensures in
    (r.link.0, omega (arith, f.words, s.within), releases_at M.core M.Good _ _ _ _ _ _ _ _ _ _ _ f.key r.link.1.0 r.index r.holding r.hand s.value r.next)
