use Rattle.std.proofs.Common.{arith}
use Rattle.mx_count.proofs.measures.delivers_letter.Goals as goal

pub is_letter-requires : goal.is_letter-requires
is_letter-requires g c = omega arith
