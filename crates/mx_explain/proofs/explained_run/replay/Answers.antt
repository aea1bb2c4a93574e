use Rattle.std.proofs.Common.{◌≡◌, Err, List, length, refl, subst, sym}
use Rattle.mx_events.specs.declared.event.Event.{Event}
use Rattle.mx_cli.specs.Printing.{IsReport, Prints, null_output, stop_at}
use Rattle.mx_cli.proofs.FrameLemmas.{prints_as}
use Rattle.mx_cli.proofs.ReadLemmas.{err_is}
use Rattle.mx_driver.specs.Commands.{IsReplay}
use Rattle.mx_driver.specs.Jobs.{run_by}
use Rattle.mx_events.specs.Arguments.{AreEventsWithin}
use Rattle.mx_driver.proofs.ReplayLemmas.{is_replay, no_replay}
use Rattle.mx_explain.proofs.explained_run.replay.Goals as goal

pub observe-requires : goal.observe-requires
observe-requires c =
    let p = c.args.plan.now in
    subst (λ (es : List Event). AreEventsWithin (length p.nodes) (length p.registers) es) (sym c.as_slice.ensures.value)
    c.in_ok-events.ensures.within

pub returns-in_err-events : goal.returns-in_err-events
returns-in_err-events c =
    let f = c.in_err-events.field-0.0 in
    let s = stop_at f in
    let is : c.from_residual.result ≡ Err s = err_is c.from_residual.result s c.from_residual.ensures.1 in
    rw is (no_replay c.args.plan.now c.args.text.now f null_output s c.in_err-events.ensures.gives refl)

pub returns : goal.returns
returns c =
    let p = c.args.plan.now in
    let es = c.in_ok-events.events.items in
    let run = subst (λ (l : List Event). Prints (IsReport (run_by p p.shape l)) null_output null_output c.observe.result) c.as_slice.ensures.value c.observe.ensures.prints in
    prints_as (IsReport (run_by p p.shape es)) (IsReplay p c.args.text.now) (is_replay p c.args.text.now es c.in_ok-events.ensures.gives) null_output null_output c.observe.result run
