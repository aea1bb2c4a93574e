use Rattle.std.proofs.Common.{◌≡◌, ◌∙◌, suc, ap, arith, sym}
use Rattle.mx_draw.specs.Walk.{StepperState, state_of}
use Rattle.mx_draw.specs.Runs.{ran}
use Rattle.mx_draw.proofs.RunLemmas.{ran_more, ran_none}
use Rattle.mx_draw.proofs.random_run.run_over.Goals as goal

pub loop-init : goal.loop-init
loop-init g c = λ rest is.
    let run = c.args.drawn.now in
    let all : rest ≡ run.steps = omega (arith, is) in
    rw all
    (ap (λ (w : StepperState). ran g.C.Exclusion.core run.conditions c.args.nodes c.args.registers run.steps w c.args.cluster.now) c.of-stepper.ensures)

pub loop-preserved : goal.loop-preserved
loop-preserved g c = λ rest is.
    ran_more g.C.Exclusion.core c.args.nodes c.args.registers c.args.drawn.now.conditions rest (state_of c.loop.stepper) (state_of c.step.new.stepper) c.loop.cluster c.step.new.cluster _
    c.in_ok-step.ensures.cluster c.in_ok-step.ensures.stepper (c.loop.invariant (suc rest) (omega (arith, is)))

pub returns : goal.returns
returns g c =
    sym (c.loop.invariant 0 (omega (arith, c.loop-test.false, c.loop.auto.counter-end)))
    ∙ ran_none g.C.Exclusion.core c.args.nodes c.args.registers c.args.drawn.now.conditions (state_of c.loop.stepper) c.loop.cluster
