use Rattle.std.proofs.Common.{inl, string_bytes, subst}
use Rattle.mx_plan.specs.Text.{Text}
use Rattle.mx_cli.specs.Printing.{Prints, sight}
use Rattle.mx_cli.specs.Requests.{part_of}
use Rattle.mx_cli.proofs.FrameLemmas.{prints_as}
use Rattle.mx_event_files.specs.Printed.{IsOnScript}
use Rattle.mx_event_files.proofs.StopLemmas.{script_stops}
use Rattle.mx_picture.specs.Pictures.{IsPictured}
use Rattle.mx_picture.proofs.command.PictureScriptCommand.run.Goals as goal

pub returns-in-Ok : goal.returns-in-Ok
returns-in-Ok g c =
    let p = c.args.plan.now in
    let part = part_of c.args.self.now.0.part in
    let file = string_bytes c.in-Ok.file in
    let old = sight g.O.Output c.args.out.now in
    let new = sight g.O.Output c.draw_text.new.out in
    let prints = subst (λ (t : Text). Prints (IsPictured part p t) old new c.draw_text.result) c.as_bytes.ensures.value c.draw_text.ensures.prints in
    record { prints = prints_as (IsPictured part p file) (IsOnScript (IsPictured part) p c.args.text.now) (λ r h. inl (file, c.in-Ok.ensures.ok, h)) old new c.draw_text.result prints }

pub returns-in-Err : goal.returns-in-Err
returns-in-Err g c =
    record { prints = script_stops (IsPictured (part_of c.args.self.now.0.part)) c.args.plan.now c.args.text.now (sight g.O.Output c.args.out.now) c.in-Err.stop c.in-Err.ensures.err }
