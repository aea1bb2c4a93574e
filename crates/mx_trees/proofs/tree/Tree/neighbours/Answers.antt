use Rattle.std.proofs.Common.{arith, ap, subst}
use Rattle.mx_trees.specs.Tree.{Rooted, IsRooted}
use Rattle.mx_trees.proofs.tree.Tree.neighbours.Goals as goal

pub returns-clause-value : goal.returns-clause-value
returns-clause-value c =
    let rows = ap (λ (t : Rooted). t.rows) c.self.view_is in
    cc (rows, c.get.ensures.value, c.get-2.ensures.value)

pub returns-clause-both : goal.returns-clause-both
returns-clause-both c =
    let valid : IsRooted c.args.self.now = let P : Rooted → Type 0 = λ t. IsRooted t in subst P c.self.view_is c.self.invariant in
    grind (arith, returns-clause-value c, valid.both c.args.i c.args.j, valid.both c.args.j c.args.i)
