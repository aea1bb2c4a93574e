use Rattle.std.proofs.Common.{◌∙◌, ℕ, ap}
use Rattle.mx_draw.specs.Walk.{StepperState, looked, next_step, state_of}
use Rattle.mx_draw.proofs.stepper.Stepper.walk.Goals as goal

pub returns-clause-event : goal.returns-clause-event
returns-clause-event g c =
    let saw = c.in_ok-look.ensures ∙ ap (λ (n : ℕ). looked n (state_of c.args.self.now)) c.sent.ensures in
    c.walk_on.ensures.event ∙ ap (λ (w : StepperState). (next_step g.C.Exclusion.core c.args.conditions.now c.args.cluster.now c.args.nodes c.args.registers w).event) saw

pub returns-clause-after : goal.returns-clause-after
returns-clause-after g c =
    let saw = c.in_ok-look.ensures ∙ ap (λ (n : ℕ). looked n (state_of c.args.self.now)) c.sent.ensures in
    c.walk_on.ensures.after ∙ ap (λ (w : StepperState). (next_step g.C.Exclusion.core c.args.conditions.now c.args.cluster.now c.args.nodes c.args.registers w).after) saw
