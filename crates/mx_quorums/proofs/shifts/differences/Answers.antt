use Rattle.std.proofs.Common.{rules, refl}
use Rattle.mx_quorums.proofs.shifts.differences.Goals as goal

pub returns-in-13 : goal.returns-in-13
returns-in-13 c = rw c.in-13.is (search rules, refl)
