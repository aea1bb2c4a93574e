use Rattle.std.proofs.Common.{◌≡◌, take, true}
use Rattle.std.specs.List.{list_all}
use Rattle.serde_json.specs.View.{view}
use Rattle.mx_plan.specs.TreeKeys.{is_edge}
use Rattle.mx_plan.proofs.tree_reader.all_edges.Given as goal

abbrev pub invariant-loop-value : goal.invariant-loop-value
invariant-loop-value l = list_all (λ v. is_edge (view v)) (take l.value-index l.values) ≡ true
