use Rattle.std.proofs.Common.{Bool, subst}
use Rattle.mx_plan.specs.Text.{Text}
use Rattle.mx_cli.specs.Reports.{seen}
use Rattle.mx_cli.specs.Words.{names_of as given_names}
use Rattle.mx_cli.specs.Printing.{course_of}
use Rattle.mx_cli.specs.Frames.{Closes, IsReportOf, files_of, names_of, told_plan, told_text}
use Rattle.mx_cli.proofs.FrameLemmas.{closed}
use Rattle.mx_cli.proofs.frame.front.Goals as goal

pub returns-clause-runs : goal.returns-clause-runs
returns-clause-runs g c =
    let u = g.E.Output.takes_all c.args.err.now in
    let told = g.S.Source.told c.args.source.now in
    let course = course_of c.run_files-ended.result in
    let mid = seen g.O.Output g.E.Output c.run_files-ended.new.out c.args.err.now in
    let new = seen g.O.Output g.E.Output c.close.new.out c.close.new.err in
    let takes = subst (λ (t : Bool). Closes (given_names c.names.result) t u course mid new c.close.result) c.run_files-ended.ensures.prints.stays c.close.ensures.closes in
    let named = subst (λ (names : Text × Text). Closes names (g.O.Output.takes_all c.args.out.now) u course mid new c.close.result) c.names.ensures takes in
    closed (IsReportOf (g.C.Command.reports c.args.command.now) c.args.files.now.needs c.args.files.now.names_texts (told_plan told (files_of c.args.files.now)) (told_text told (files_of c.args.files.now))) (names_of (files_of c.args.files.now)) (g.O.Output.takes_all c.args.out.now) u (seen g.O.Output g.E.Output c.args.out.now c.args.err.now) new mid.out mid.refused mid.kept_back
    c.close.result course c.run_files-ended.ensures.prints.shows c.run_files-ended.ensures.prints.refused named
