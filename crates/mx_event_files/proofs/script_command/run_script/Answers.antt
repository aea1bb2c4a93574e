use Rattle.std.proofs.Common.{inl, refl, string_bytes}
use Rattle.mx_cli.specs.Printing.{IsWhole, sight}
use Rattle.mx_cli.proofs.FrameLemmas.{whole_prints}
use Rattle.mx_event_files.specs.Printed.{IsScript}
use Rattle.mx_event_files.proofs.StopLemmas.{script_stops}
use Rattle.mx_event_files.proofs.script_command.run_script.Goals as goal

pub returns-in-Ok : goal.returns-in-Ok
returns-in-Ok g c =
    let file = string_bytes c.in-Ok.file in
    record {
      prints = whole_prints (IsScript c.args.plan.now c.args.script.now) c.as_bytes.result.now file 0 (sight g.O.Output c.args.out.now) (sight g.O.Output c.print.new.out) c.print.result
          c.as_bytes.ensures.value (inl (file, c.in-Ok.ensures.ok, refl)) c.print.ensures.prints;
    }

pub returns-in-Err : goal.returns-in-Err
returns-in-Err g c = record { prints = script_stops (λ p file. IsWhole file 0) c.args.plan.now c.args.script.now (sight g.O.Output c.args.out.now) c.in-Err.stop c.in-Err.ensures.err }
