use Rattle.std.proofs.Common.{arith, ap}
use Rattle.mx_trees.specs.Tree.{Rooted}
use Rattle.mx_trees.proofs.tree.Tree.holder.Goals as goal

pub returns-clause-value : goal.returns-clause-value
returns-clause-value c = omega (arith, ap (λ (t : Rooted). t.holder) c.self.view_is)

pub returns-clause-node : goal.returns-clause-node
returns-clause-node c =
    let count = ap (λ (t : Rooted). t.count) c.self.view_is in
    omega (arith, count, c.self.invariant.holder)
