use Rattle.std.proofs.Common.{arith}
use Rattle.mx_scripts.proofs.in_flight.InFlight.note.Goals as goal

pub grow-requires : goal.grow-requires
grow-requires g c = omega arith

pub sent-requires : goal.sent-requires
sent-requires g c = omega arith

pub take_in-requires : goal.take_in-requires
take_in-requires g c = omega arith
