use Rattle.std.proofs.Common.{◌∙◌, Err, ap, rules}
use Rattle.std.proofs.lemmas.Result.{err_from_is_err_and}
use Rattle.serde_json.specs.View.{view}
use Rattle.mx_plan.proofs.PlanLemmas.{both_given, nodes_kept, nodes_refused}
use Rattle.mx_plan.proofs.plan_reader.both_names.Goals as goal

pub returns-in_err-nodes-clause-answers : goal.returns-in_err-nodes-clause-answers
returns-in_err-nodes-clause-answers c =
    let p = err_from_is_err_and c.from_residual.result c.from_residual.ensures.1 in
    nodes_refused (view c.args.value.now) c.in_err-nodes.field-0.0 c.from_residual.result (rw c.get.ensures at c.in_err-nodes.ensures.answers) (p.1 ∙ ap Err p.2)

pub returns-clause-answers : goal.returns-clause-answers
returns-clause-answers c =
    both_given c.in_ok-nodes.nodes (view c.args.value.now) c.names_at-2.result c.map.result
    (rw c.get.ensures at c.in_ok-nodes.ensures.answers) (rw c.get-2.ensures at c.names_at-2.ensures.answers) (search rules)

pub returns-clause-nodes : goal.returns-clause-nodes
returns-clause-nodes c = nodes_kept c.in_ok-nodes.nodes c.names_at-2.result c.map.result c.in_ok-nodes.ensures.valid (search rules)
