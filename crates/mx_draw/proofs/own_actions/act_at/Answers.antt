use Rattle.std.proofs.Common.{arith}
use Rattle.mx_draw.proofs.own_actions.act_at.Goals as goal

pub member-requires : goal.member-requires
member-requires g c = omega arith
