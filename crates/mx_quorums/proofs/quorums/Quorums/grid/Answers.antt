use Rattle.std.proofs.Common.{arith}
use Rattle.mx_quorums.proofs.ShapeLemmas.{grid_accepted, grid_sets}
use Rattle.mx_quorums.proofs.quorums.Quorums.grid.Goals as goal

pub returns-clause-ok : goal.returns-clause-ok
returns-clause-ok c =
    let n = c.in_ok-nodes.ensures in
    ((λ h. (omega (arith, n), omega (arith, n))), (λ size. grid_accepted c.args.rows c.args.cols c.in_ok-nodes.nodes c.grid_rows.result n.0 n.1 c.grid_rows.ensures c.checked.result c.checked.ensures))

pub returns-clause-sets : goal.returns-clause-sets
returns-clause-sets c = grid_sets c.args.rows c.args.cols c.in_ok-nodes.nodes c.grid_rows.result c.in_ok-nodes.ensures.0 c.grid_rows.ensures c.checked.result c.checked.ensures
