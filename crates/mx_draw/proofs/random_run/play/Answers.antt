use Rattle.std.proofs.Common.{arith}
use Rattle.mx_draw.proofs.random_run.play.Goals as goal

pub advance-requires : goal.advance-requires
advance-requires g c = omega arith
