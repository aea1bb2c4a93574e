use Rattle.std.proofs.Common.{arith}
use Rattle.mx_draw.proofs.own_actions.actor.Goals as goal

pub ready_or-requires : goal.ready_or-requires
ready_or-requires g c = omega arith
