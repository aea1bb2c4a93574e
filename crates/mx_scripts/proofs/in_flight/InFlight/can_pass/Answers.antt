use Rattle.std.proofs.Common.{arith}
use Rattle.mx_scripts.proofs.in_flight.InFlight.can_pass.Goals as goal

pub is_held-requires : goal.is_held-requires
is_held-requires g c = omega arith
