use Rattle.std.proofs.Common.{arith}
use Rattle.mx_stamps.proofs.Choices.{eq_is, eq_true}
use Rattle.mx_stations.proofs.settlement.is_due.Goals as goal

pub returns : goal.returns
returns c = ((λ t. (omega arith, omega arith, eq_true _ _ t)), (λ due. eq_is _ _ due.2))
