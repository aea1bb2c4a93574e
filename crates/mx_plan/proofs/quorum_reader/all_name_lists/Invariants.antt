use Rattle.std.proofs.Common.{◌≡◌, take, true}
use Rattle.std.specs.List.{list_all}
use Rattle.serde_json.specs.View.{view}
use Rattle.mx_plan.specs.NameLists.{is_name_list}
use Rattle.mx_plan.proofs.quorum_reader.all_name_lists.Given as goal

abbrev pub invariant-loop-value : goal.invariant-loop-value
invariant-loop-value l = list_all (λ v. is_name_list (view v)) (take l.value-index l.values) ≡ true
