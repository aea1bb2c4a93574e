use Rattle.std.proofs.Common.{◌∙◌, sym, ap}
use Rattle.serde_json.specs.View.{view}
use Rattle.mx_plan.specs.TreeKeys.{is_edge}
use Rattle.mx_plan.proofs.Lists.{all_ends, all_stops}
use Rattle.mx_plan.proofs.tree_reader.all_edges.Goals as goal

pub returns-then-not-is_edge : goal.returns-then-not-is_edge
returns-then-not-is_edge c =
    let fails = sym (ap (λ v. is_edge (view v)) c.value-item.is) ∙ sym c.is_edge.ensures ∙ c.if-not-is_edge.true in
    sym (all_stops is_edge view c.args.values.now c.loop-value.value-index c.value-item.result c.loop-value-test.true fails)

pub returns : goal.returns
returns c =
    sym (all_ends is_edge view c.args.values.now c.loop-value.value-index c.loop-value-test.false c.loop-value.invariant)
