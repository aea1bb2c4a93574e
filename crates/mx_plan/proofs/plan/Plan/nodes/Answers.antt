use Rattle.std.proofs.Common.{arith}
use Rattle.mx_plan.proofs.plan.Plan.nodes.Goals as goal

pub returns-clause-value : goal.returns-clause-value
returns-clause-value c = rw (← c.self.view_is) c.len.ensures

pub returns-clause-high : goal.returns-clause-high
returns-clause-high c = omega (arith, c.len.ensures, c.self.invariant.nodes.few)
