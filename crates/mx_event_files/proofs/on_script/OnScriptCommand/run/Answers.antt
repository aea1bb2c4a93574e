use Rattle.std.proofs.Common.{inl, string_bytes, subst}
use Rattle.mx_plan.specs.Text.{Text}
use Rattle.mx_cli.specs.Printing.{Prints, sight}
use Rattle.mx_cli.proofs.FrameLemmas.{prints_as}
use Rattle.mx_event_files.specs.Printed.{IsOnScript}
use Rattle.mx_event_files.proofs.StopLemmas.{script_stops}
use Rattle.mx_event_files.proofs.on_script.OnScriptCommand.run.Goals as goal

pub returns-in-Ok : goal.returns-in-Ok
returns-in-Ok g c =
    let p = c.args.plan.now in
    let reports = g.C.Command.reports c.args.self.now.0.now in
    let file = string_bytes c.in-Ok.file in
    let old = sight g.O.Output c.args.out.now in
    let new = sight g.O.Output c.run.new.out in
    let prints = subst (λ (t : Text). Prints (reports p t) old new c.run.result) c.as_bytes.ensures.value c.run.ensures.prints in
    record { prints = prints_as (reports p file) (IsOnScript reports p c.args.text.now) (λ r h. inl (file, c.in-Ok.ensures.ok, h)) old new c.run.result prints }

pub returns-in-Err : goal.returns-in-Err
returns-in-Err g c =
    record { prints = script_stops (g.C.Command.reports c.args.self.now.0.now) c.args.plan.now c.args.text.now (sight g.O.Output c.args.out.now) c.in-Err.stop c.in-Err.ensures.err }
