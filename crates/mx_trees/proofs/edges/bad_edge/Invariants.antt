use Rattle.mx_trees.specs.Edges.{AreEdges}
use Rattle.mx_trees.proofs.edges.bad_edge.Given as goal

abbrev pub invariant-loop-k : goal.invariant-loop-k
invariant-loop-k l = AreEdges l.nodes l.k l.edges
