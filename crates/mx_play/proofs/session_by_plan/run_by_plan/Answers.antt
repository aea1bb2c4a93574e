use Rattle.std.proofs.Common.{length, rules, subst}
use Rattle.mx_plan.specs.Fields.{IsShape}
use Rattle.mx_plan.specs.declared.shape.Shape.{Shape}
use Rattle.mx_play.proofs.session_by_plan.run_by_plan.Goals as goal

pub run_session-requires : goal.run_session-requires
run_session-requires g c =
    let valid = subst (λ (s : Shape). IsShape (length c.args.start.now.plan.nodes) s) c.in-Ricart.is c.shape.ensures.valid in
    (search rules, (valid, search rules))

pub run_session-requires-in-Maekawa : goal.run_session-requires-in-Maekawa
run_session-requires-in-Maekawa g c =
    let valid = subst (λ (s : Shape). IsShape (length c.args.start.now.plan.nodes) s) c.in-Maekawa.is c.shape.ensures.valid in
    (search rules, (valid.2, search rules))

pub run_session-requires-in-Raymond : goal.run_session-requires-in-Raymond
run_session-requires-in-Raymond g c =
    let valid = subst (λ (s : Shape). IsShape (length c.args.start.now.plan.nodes) s) c.in-Raymond.is c.shape.ensures.valid in
    (search rules, (valid.1, search rules))
