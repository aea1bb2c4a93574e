use Rattle.std.proofs.Common.{ap}
use Rattle.mx_quorums.specs.Family.{Family}
use Rattle.mx_quorums.proofs.quorums.Quorums.set.Goals as goal

pub returns : goal.returns
returns c =
    let rows = ap (λ (f : Family). f.rows) c.self.view_is in
    cc (rows, c.get.ensures.value)
