use Rattle.std.proofs.Common.{Err, List, Ok, ℕ, subst, sym}
use Rattle.mx_cli.specs.Printing.{Prints, sight}
use Rattle.mx_cli.specs.Frames.{IsReportOf, files_of, told_plan, told_text}
use Rattle.mx_cli.specs.declared.stop.Stop.{Stop}
use Rattle.mx_cli.proofs.FrameLemmas.{ok_prints, stop_prints, unread_prints}
use Rattle.mx_cli.proofs.frame.run_files.Goals as goal

pub returns-in-Ok-run-clause-prints : goal.returns-in-Ok-run-clause-prints
returns-in-Ok-run-clause-prints g c =
    let reports = g.C.Command.reports c.args.command.now in
    let told = g.S.Source.told c.args.source.now in
    let files = files_of c.args.files.now in
    let both = c.in-Ok.both in
    let o = sight g.O.Output c.args.out.now in
    let n = sight g.O.Output c.run.new.out in
    let status = c.in-Ok-run.status in
    let printed = subst (λ (l : List ℕ). Prints (reports both.plan l) o n (Ok status)) c.as_slice.ensures.value c.in-Ok-run.ensures.prints in
    ok_prints reports c.args.files.now.needs c.args.files.now.names_texts (told_plan told files) (told_text told files) both.plan both.text.items o n status c.in-Ok.ensures.read.0 c.in-Ok.ensures.read.1 printed

pub returns-in-Ok-clause-prints : goal.returns-in-Ok-clause-prints
returns-in-Ok-clause-prints g c =
    let reports = g.C.Command.reports c.args.command.now in
    let b = c.args.files.now.names_texts in
    let told = g.S.Source.told c.args.source.now in
    let plan = told_plan told (files_of c.args.files.now) in
    let text = told_text told (files_of c.args.files.now) in
    let both = c.in-Ok.both in
    let o = sight g.O.Output c.args.out.now in
    let n = sight g.O.Output c.run.new.out in
    let printed = subst (λ (l : List ℕ). Prints (reports both.plan l) o n (Err c.in-Err-run.stop)) c.as_slice.ensures.value c.in-Err-run.ensures.prints in
    subst (λ (s : Stop). Prints (IsReportOf reports c.args.files.now.needs b plan text) o n (Err s)) (sym c.stop_for.ensures)
    (stop_prints reports c.args.files.now.needs b plan text both.plan both.text.items o n c.in-Err-run.stop c.in-Ok.ensures.read.0 c.in-Ok.ensures.read.1 printed)

pub returns-clause-prints : goal.returns-clause-prints
returns-clause-prints g c =
    let reports = g.C.Command.reports c.args.command.now in
    let b = c.args.files.now.names_texts in
    let told = g.S.Source.told c.args.source.now in
    let plan = told_plan told (files_of c.args.files.now) in
    let text = told_text told (files_of c.args.files.now) in
    let o = sight g.O.Output c.args.out.now in
    subst (λ (s : Stop). Prints (IsReportOf reports c.args.files.now.needs b plan text) o o (Err s)) (sym c.stop_for-in-Err.ensures)
    (unread_prints reports c.args.files.now.needs b plan text o c.in-Err.stop c.in-Err.ensures.read c.in-Err.ensures.unread)
