use Rattle.mx_trees.proofs.Rows.{rows_at, rows_with}
use Rattle.mx_trees.proofs.edges.neighbours.Goals as goal

pub loop-a-init : goal.loop-a-init
loop-a-init c = rows_at

pub loop-a-preserved : goal.loop-a-preserved
loop-a-preserved c =
    let edge = c.requires c.loop-a.a-index c.loop-a-test.true in
    rows_with c.loop-a.rows c.args.edges.now c.loop-a.a-index c.loop-a.invariant c.loop-a-test.true edge.0 edge.1
