use Rattle.std.proofs.Common.{take}
use Rattle.mx_trees.proofs.Rows.{IsRows}
use Rattle.mx_trees.proofs.edges.neighbours.Given as goal

abbrev pub invariant-loop-a : goal.invariant-loop-a
invariant-loop-a l = IsRows l.rows (take l.a-index l.edges)
