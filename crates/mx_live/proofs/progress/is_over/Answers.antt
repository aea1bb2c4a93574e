use Rattle.std.proofs.Common.{arith}
use Rattle.mx_live.proofs.progress.is_over.Goals as goal

pub from_millis-requires : goal.from_millis-requires
from_millis-requires g c = omega arith
