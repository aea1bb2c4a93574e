use Rattle.std.proofs.Common.{◌∙◌, ap, sym, rules, Err}
use Rattle.std.proofs.lemmas.Result.{err_from_is_err_and}
use Rattle.serde_json.specs.View.{view}
use Rattle.mx_plan.proofs.PlanLemmas.{names_refused, plan_made}
use Rattle.mx_plan.proofs.plan_reader.plan_in.Goals as goal

pub returns-in_err-nodes-clause-answers : goal.returns-in_err-nodes-clause-answers
returns-in_err-nodes-clause-answers c =
    let p = err_from_is_err_and c.from_residual-in_err-nodes.result c.from_residual-in_err-nodes.ensures.1 in
    names_refused c.args.needs (view c.args.value.now) c.in_ok-algorithm.algorithm (search rules) (sym c.in_ok-algorithm.ensures) c.in_err-nodes.field-0.0
    c.from_residual-in_err-nodes.result c.in_err-nodes.ensures.answers (p.1 ∙ ap Err p.2)

pub returns-clause-answers : goal.returns-clause-answers
returns-clause-answers c =
    plan_made c.args.needs (view c.args.value.now) c.in_ok-algorithm.algorithm (search rules) (sym c.in_ok-algorithm.ensures) c.in_ok-nodes.nodes c.in_ok-nodes.registers c.setting_in.result c.map.result
    c.in_ok-nodes.ensures.answers c.setting_in.ensures.answers (search rules)
