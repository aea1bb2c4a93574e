use Rattle.std.proofs.Common.{arith, ap}
use Rattle.mx_quorums.specs.Family.{Family}
use Rattle.mx_quorums.proofs.quorums.Quorums.nodes.Goals as goal

pub returns-clause-value : goal.returns-clause-value
returns-clause-value c = omega (arith, ap (λ (f : Family). f.count) c.self.view_is)
