use Rattle.std.proofs.Common.{ap}
use Rattle.mx_quorums.specs.Family.{Family}
use Rattle.mx_quorums.proofs.quorums.Quorums.has.Goals as goal

pub returns-clause-value : goal.returns-clause-value
returns-clause-value c =
    let rows = ap (λ (f : Family). f.rows) c.self.view_is in
    cc (rows, c.get.ensures.value, c.get-2.ensures.value)
