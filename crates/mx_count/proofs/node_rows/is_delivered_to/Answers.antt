use Rattle.std.proofs.Common.{arith}
use Rattle.mx_count.proofs.node_rows.is_delivered_to.Goals as goal

pub is_addressee-requires : goal.is_addressee-requires
is_addressee-requires g c = omega arith
