use Rattle.std.proofs.Common.{◌∙◌, List, Ok, ap, subst}
use Rattle.mx_trace.specs.declared.outcome.Entry.{Entry}
use Rattle.mx_cli.specs.Printing.{sight, whole}
use Rattle.mx_cli.proofs.FrameLemmas.{prints_as, whole_prints}
use Rattle.mx_judge.specs.Judged.{IsJudged, IsJudgement, IsVerdictOf, judgement_text}
use Rattle.mx_judge.specs.Listed.{listed}
use Rattle.mx_judge.specs.Traces.{trace_at}
use Rattle.mx_judge.proofs.JudgeLemmas.{judged_fault, judged_read, stops}
use Rattle.mx_judge.proofs.judge_command.JudgeCommand.run.Goals as goal

pub returns-in-Ok-judgement_of : goal.returns-in-Ok-judgement_of
returns-in-Ok-judgement_of g c =
    let j = c.args.self.now.is_json in
    let p = c.args.plan.now in
    let text = c.args.text.now in
    let word = c.place_word-word.result.now in
    let t = listed c.in-Ok.trace in
    let verdict = c.judge-verdict.result in
    let printed = judgement_text j p word t verdict in
    let old = sight g.O.Output c.args.out.now in
    let new = sight g.O.Output c.print.new.out in
    let is = subst (λ (l : List Entry). IsVerdictOf l verdict) c.as_slice.ensures.value (c.judge-verdict.ensures.sound, c.judge-verdict.ensures.broken) in
    record {
      prints = prints_as (IsJudged j p word (Ok t)) (IsJudgement j p text) (judged_read j p text word t c.in-Ok.ensures c.place_word-word.ensures) old new c.print.result
          (whole_prints (IsJudged j p word (Ok t)) c.as_bytes.result.now printed c.verdict_status.result old new c.print.result
          (c.as_bytes.ensures.value ∙ c.in-Ok-judgement_of.ensures is) (verdict, is, ap (whole printed) c.verdict_status.ensures) c.print.ensures.prints);
    }

pub returns-in-Err : goal.returns-in-Err
returns-in-Err g c =
    let j = c.args.self.now.is_json in
    let p = c.args.plan.now in
    let text = c.args.text.now in
    record { prints = stops (IsJudgement j p text) (trace_at p text) (sight g.O.Output c.args.out.now) c.in-Err.stop (judged_fault j p text) c.in-Err.ensures }
