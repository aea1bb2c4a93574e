use Rattle.std.proofs.Common.{arith}
use Rattle.mx_stations.proofs.Pairs.{slot_low}
use Rattle.mx_stations.proofs.slots.has_filled.Goals as goal

pub peek-requires : goal.peek-requires
peek-requires g c =
    let f = c.args.field.now in let l = c.args.link.now in let s = c.slot_of-slot.ensures in
    let low = slot_low f.nodes l.from l.to c.loop-index.index c.requires.0 c.requires.1 c.loop-index-test.true in
    omega (arith, f.words, s.value, low)
