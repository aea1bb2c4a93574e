use Rattle.std.proofs.Common.{◌≡◌, arith, subst}
use Rattle.std.specs.Prelude.{OnOk, Option}
use Rattle.mx_events.specs.declared.event.Event.{Event}
use Rattle.mx_draw.specs.Runs.{after_placed}
use Rattle.mx_draw.proofs.RunLemmas.{on_ok}
use Rattle.mx_draw.proofs.random_run.step.Goals as goal

pub play-requires : goal.play-requires
play-requires g c = omega arith

pub returns-clause-cluster : goal.returns-clause-cluster
returns-clause-cluster g c =
    subst (λ (e : Option Event). OnOk c.play.result (after_placed g.C.Exclusion.core c.args.cluster.now e ≡ c.play.new.cluster)) c.in_ok-event.ensures.event c.play.ensures

pub returns-clause-stepper : goal.returns-clause-stepper
returns-clause-stepper g c = on_ok c.play.result c.in_ok-event.ensures.after
