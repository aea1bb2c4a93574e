use Rattle.std.proofs.Common.{List, ap, string_bytes, subst}
use Rattle.mx_trace.specs.declared.outcome.Entry.{Entry}
use Rattle.mx_cli.specs.Printing.{sight, whole}
use Rattle.mx_cli.proofs.FrameLemmas.{whole_prints}
use Rattle.mx_judge.specs.Judged.{IsVerdictOf}
use Rattle.mx_judge.specs.Listed.{listed}
use Rattle.mx_picture.specs.TracePictures.{IsTraceShown}
use Rattle.mx_picture.proofs.trace_command.print_trace.Goals as goal

pub returns-in-Ok : goal.returns-in-Ok
returns-in-Ok g c =
    let p = c.args.plan.now in
    let word = c.args.word.now in
    let t = listed c.args.trace.now in
    let verdict = c.judge-verdict.result in
    let status = c.verdict_status.result in
    let picture = string_bytes c.in-Ok.page in
    let is = subst (λ (l : List Entry). IsVerdictOf l verdict) c.as_slice.ensures.value (c.judge-verdict.ensures.sound, c.judge-verdict.ensures.broken) in
    record {
      prints = whole_prints (IsTraceShown p word t) c.as_bytes.result.now picture status (sight g.O.Output c.args.out.now) (sight g.O.Output c.print.new.out) c.print.result
          c.as_bytes.ensures.value (verdict, is, picture, c.in-Ok.ensures is, ap (whole picture) c.verdict_status.ensures) c.print.ensures.prints;
    }
