use Rattle.std.proofs.Common.{◌∙◌, length, rules, subst, sym}
use Rattle.mx_maekawa.specs.Step.{maekawa_core}
use Rattle.mx_raymond.specs.Step.{raymond_core}
use Rattle.mx_ricart.specs.Step.{ricart_core}
use Rattle.mx_plan.specs.Fields.{IsShape}
use Rattle.mx_plan.specs.declared.shape.Shape.{Shape}
use Rattle.mx_cli.specs.Printing.{sight}
use Rattle.mx_shown_scripts.proofs.ShownLemmas.{lacks_all, shape_prints, starts_alike}
use Rattle.mx_shown_scripts.proofs.replay_script.show_by_plan.Goals as goal

pub returns-in_err-start-in-Ricart : goal.returns-in_err-start-in-Ricart
returns-in_err-start-in-Ricart g c = record { prints = lacks_all _ (sight g.O.Output c.args.out.now) c.from_residual-in_err-start-in-Ricart.result c.from_residual-in_err-start-in-Ricart.ensures.1 }

pub show-requires : goal.show-requires
show-requires g c =
    let p = c.args.showing.now.plan.now in
    (search rules, starts_alike ricart_core p c.in-Ricart.shape (length p.nodes) _ _ c.in_ok-state-in-Ricart.ensures c.in_ok-start-in-Ricart.ensures (subst (λ (s : Shape). IsShape (length p.nodes) s) c.in-Ricart.is c.shape.ensures.valid))

pub returns-in_ok-start-in-Ricart : goal.returns-in_ok-start-in-Ricart
returns-in_ok-start-in-Ricart g c =
    let prints = rw c.in_ok-start-in-Ricart.ensures at c.show.ensures.prints in
    record { prints = shape_prints c.args.showing.now.plan.now c.args.showing.now.view.now c.args.script.now _ _ _ _ _ (sym c.shape.ensures.value ∙ c.in-Ricart.is) (λ r h. h) prints }

pub returns-in_err-start-in-Maekawa : goal.returns-in_err-start-in-Maekawa
returns-in_err-start-in-Maekawa g c = record { prints = lacks_all _ (sight g.O.Output c.args.out.now) c.from_residual-in_err-start-in-Maekawa.result c.from_residual-in_err-start-in-Maekawa.ensures.1 }

pub show-requires-in-Maekawa : goal.show-requires-in-Maekawa
show-requires-in-Maekawa g c =
    let p = c.args.showing.now.plan.now in
    (search rules, starts_alike maekawa_core p c.in-Maekawa.shape (length p.nodes) _ _ c.in_ok-state-in-Maekawa.ensures c.in_ok-start-in-Maekawa.ensures (subst (λ (s : Shape). IsShape (length p.nodes) s) c.in-Maekawa.is c.shape.ensures.valid).2)

pub returns-in_ok-start-in-Maekawa : goal.returns-in_ok-start-in-Maekawa
returns-in_ok-start-in-Maekawa g c =
    let prints = rw c.in_ok-start-in-Maekawa.ensures at c.show-in-Maekawa.ensures.prints in
    record { prints = shape_prints c.args.showing.now.plan.now c.args.showing.now.view.now c.args.script.now _ _ _ _ _ (sym c.shape.ensures.value ∙ c.in-Maekawa.is) (λ r h. h) prints }

pub returns-in_err-start-in-Raymond : goal.returns-in_err-start-in-Raymond
returns-in_err-start-in-Raymond g c = record { prints = lacks_all _ (sight g.O.Output c.args.out.now) c.from_residual-in_err-start-in-Raymond.result c.from_residual-in_err-start-in-Raymond.ensures.1 }

pub show-requires-in-Raymond : goal.show-requires-in-Raymond
show-requires-in-Raymond g c =
    let p = c.args.showing.now.plan.now in
    (search rules, starts_alike raymond_core p c.in-Raymond.shape (length p.nodes) _ _ c.in_ok-state-in-Raymond.ensures c.in_ok-start-in-Raymond.ensures (subst (λ (s : Shape). IsShape (length p.nodes) s) c.in-Raymond.is c.shape.ensures.valid).1)

pub returns-in_ok-start-in-Raymond : goal.returns-in_ok-start-in-Raymond
returns-in_ok-start-in-Raymond g c =
    let prints = rw c.in_ok-start-in-Raymond.ensures at c.show-in-Raymond.ensures.prints in
    record { prints = shape_prints c.args.showing.now.plan.now c.args.showing.now.view.now c.args.script.now _ _ _ _ _ (sym c.shape.ensures.value ∙ c.in-Raymond.is) (λ r h. h) prints }
