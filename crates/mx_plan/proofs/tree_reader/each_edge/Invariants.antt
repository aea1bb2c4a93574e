use Rattle.std.proofs.Common.{◌≡◌}
use Rattle.serde_json.specs.View.{view}
use Rattle.mx_plan.specs.TreeKeys.{edge_of}
use Rattle.mx_plan.proofs.EachLemmas.{after, rest}
use Rattle.mx_plan.proofs.tree_reader.each_edge.Given as goal

abbrev pub invariant-loop-value : goal.invariant-loop-value
invariant-loop-value l =
    rest view (λ _. edge_of l.nodes) l.values 0 ≡ after l.edges.items (rest view (λ _. edge_of l.nodes) l.values l.value-index)
