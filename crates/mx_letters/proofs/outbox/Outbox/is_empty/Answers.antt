use Rattle.std.proofs.Common.{arith, length, ap}
use Rattle.std.proofs.lemmas.Bool.Decides.{nat_tests}
use Rattle.std.proofs.lemmas.List.{nil_from_length}
use Rattle.mx_letters.proofs.outbox.Outbox.is_empty.Goals as goal

pub returns : goal.returns
returns g c = grind (arith, nat_tests, nil_from_length, ap length c.self.view_is)
