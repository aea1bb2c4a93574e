use Rattle.std.proofs.Common.{arith, length, ap}
use Rattle.mx_letters.proofs.outbox.Outbox.room.Goals as goal

pub returns : goal.returns
returns g c = omega (arith, ap length c.self.view_is)
