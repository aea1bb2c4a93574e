use Rattle.std.proofs.Common.{arith, ap}
use Rattle.mx_trees.specs.Tree.{Rooted}
use Rattle.mx_trees.proofs.tree.Tree.nodes.Goals as goal

pub returns-clause-value : goal.returns-clause-value
returns-clause-value c = omega (arith, ap (λ (t : Rooted). t.count) c.self.view_is)
