use Rattle.std.proofs.Common.{arith}
use Rattle.mx_stations.proofs.queue.turn.Goals as goal

pub push-requires : goal.push-requires
push-requires g c = let r = c.remove-first.ensures.len in let e = c.len-count.ensures.value in let f = c.len-count.ensures.fits in omega (arith, r, e, f)
