use Rattle.std.proofs.Common.{arith, length, ap}
use Rattle.mx_letters.proofs.outbox.Outbox.as_slice.Goals as goal

pub returns-clause-bound : goal.returns-clause-bound
returns-clause-bound g c = omega (arith, ap length c.self.view_is, ap length c.as_slice.ensures.value)
