use Rattle.std.proofs.Common.{Err, subst, sym}
use Rattle.mx_plan.specs.Text.{Text}
use Rattle.mx_plan.specs.declared.needs.Needs.TheVariants.{All}
use Rattle.mx_cli.specs.Printing.{Prints, null_output}
use Rattle.mx_cli.specs.Reading.{plan_told, text_told}
use Rattle.mx_cli.specs.Words.{names_of}
use Rattle.mx_cli.specs.Frames.{IsReportOf}
use Rattle.mx_cli.specs.declared.stop.Stop.{Stop}
use Rattle.mx_cli.proofs.FrameLemmas.{unread_prints}
use Rattle.mx_explain.specs.Explained.{IsTextReport}
use Rattle.mx_explain.proofs.ExplainLemmas.{text_runs}
use Rattle.mx_explain.proofs.explained_run.run_both.Goals as goal

pub returns-in-Ok : goal.returns-in-Ok
returns-in-Ok g c =
    let b = c.args.is_script in
    let told = g.S.Source.told c.args.source.now in
    let names = names_of c.args.names.now in
    let both = c.in-Ok.both in
    let res = c.run_text.result in
    let ran = subst (λ (l : Text). Prints (IsTextReport b both.plan l) null_output null_output res) c.as_slice.ensures.value c.run_text.ensures in
    text_runs b (plan_told told names) (text_told told names) both.plan both.text.items res c.in-Ok.ensures.read.0 c.in-Ok.ensures.read.1 ran

pub returns-in-Err : goal.returns-in-Err
returns-in-Err g c =
    let b = c.args.is_script in
    let told = g.S.Source.told c.args.source.now in
    let names = names_of c.args.names.now in
    let plan = plan_told told names in
    let text = text_told told names in
    subst (λ (s : Stop). Prints (IsReportOf (IsTextReport b) All b plan text) null_output null_output (Err s)) (sym c.stop_for.ensures)
    (unread_prints (IsTextReport b) All b plan text null_output c.in-Err.stop c.in-Err.ensures.read c.in-Err.ensures.unread)
