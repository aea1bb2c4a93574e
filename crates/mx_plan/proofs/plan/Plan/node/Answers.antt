use Rattle.std.proofs.Common.{◌≡◌, Some, arith}
use Rattle.mx_plan.proofs.plan.Plan.node.Goals as goal

pub returns-clause-value : goal.returns-clause-value
returns-clause-value c =
    let found : c.index_of.result ≡ Some c.in_ok-index.index = cc (c.in_ok-index.was) in
    let below = rw found at c.index_of.ensures.within in
    rw (← c.self.view_is, ← c.index_of.ensures.index, found)
    (grind (arith, below, c.self.invariant.nodes.few, c.of.ensures.some, c.of.ensures.value))
