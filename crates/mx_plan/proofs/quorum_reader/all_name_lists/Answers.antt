use Rattle.std.proofs.Common.{◌∙◌, sym, ap}
use Rattle.serde_json.specs.View.{view}
use Rattle.mx_plan.specs.NameLists.{is_name_list}
use Rattle.mx_plan.proofs.Lists.{all_ends, all_stops}
use Rattle.mx_plan.proofs.quorum_reader.all_name_lists.Goals as goal

pub returns-then-not-is_name_list : goal.returns-then-not-is_name_list
returns-then-not-is_name_list c =
    let fails = sym (ap (λ v. is_name_list (view v)) c.value-item.is) ∙ sym c.is_name_list.ensures ∙ c.if-not-is_name_list.true in
    sym (all_stops is_name_list view c.args.values.now c.loop-value.value-index c.value-item.result c.loop-value-test.true fails)

pub returns : goal.returns
returns c =
    sym (all_ends is_name_list view c.args.values.now c.loop-value.value-index c.loop-value-test.false c.loop-value.invariant)
