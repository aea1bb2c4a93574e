use Rattle.mx_cli.specs.Printing.{sight}
use Rattle.mx_cli.proofs.FrameLemmas.{prints_as}
use Rattle.mx_judge.specs.Faults.{IsFaultReport}
use Rattle.mx_judge.specs.Listed.{ReadTrace, listed}
use Rattle.mx_judge.specs.Traces.{place_word, trace_at}
use Rattle.mx_judge.proofs.JudgeLemmas.{stops}
use Rattle.mx_picture.specs.TracePictures.{IsTraceDrawn, IsTraceShown}
use Rattle.mx_picture.proofs.TraceLemmas.{drawn_read, match_err}
use Rattle.mx_picture.proofs.trace_command.draw_text.Goals as goal

pub returns-in-Ok : goal.returns-in-Ok
returns-in-Ok g c =
    let p = c.args.plan.now in
    let text = c.args.text.now in
    let word = c.place_word.result.now in
    let t = listed c.in-Ok.trace in
    record {
      prints = prints_as (IsTraceShown p word t) (IsTraceDrawn p text) (drawn_read p text word t c.in-Ok.ensures c.place_word.ensures)
          (sight g.O.Output c.args.out.now) (sight g.O.Output c.print_trace.new.out) c.print_trace.result c.print_trace.ensures.prints;
    }

pub returns-in-Err : goal.returns-in-Err
returns-in-Err g c =
    let p = c.args.plan.now in
    let text = c.args.text.now in
    record {
      prints = stops (IsTraceDrawn p text) (trace_at p text) (sight g.O.Output c.args.out.now) c.in-Err.stop
          (λ bad read r at. match_err (λ (t : ReadTrace). IsTraceShown p (place_word text) t r) (λ fault. IsFaultReport fault r) (trace_at p text) bad read at)
          c.in-Err.ensures;
    }
