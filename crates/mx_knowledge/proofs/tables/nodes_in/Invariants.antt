use Rattle.std.proofs.Common.{◌≡◌}
use Rattle.mx_knowledge.specs.Tables.{below, node_at}
use Rattle.mx_knowledge.proofs.tables.nodes_in.Given as goal

abbrev pub invariant-loop-i : goal.invariant-loop-i
invariant-loop-i l = l.items.items ≡ below (node_at l.marks) l.i
