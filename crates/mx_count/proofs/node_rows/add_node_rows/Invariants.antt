use Rattle.std.proofs.Common.{◌≡◌, ◌++◌, length}
use Rattle.std.specs.List.{flat_map}
use Rattle.mx_count.specs.NodeCounts.{node_rows, rows_of_node}
use Rattle.mx_count.specs.Rows.{rows_of}
use Rattle.mx_count.proofs.node_rows.add_node_rows.Given as goal

abbrev pub invariant-loop-node : goal.invariant-loop-node
invariant-loop-node g l =
    rows_of l.initial.rows.items ++ node_rows l.cluster (length l.plan.nodes) ≡ rows_of l.rows.items ++ flat_map (rows_of_node l.cluster) l.node-iterator
