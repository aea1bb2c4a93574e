use Rattle.std.proofs.Common.{Bool, subst}
use Rattle.mx_plan.specs.Text.{Text}
use Rattle.mx_cli.specs.Frames.{Closes}
use Rattle.mx_cli.specs.Printing.{course_of}
use Rattle.mx_cli.specs.Reports.{seen}
use Rattle.mx_cli.specs.Requests.{text_of}
use Rattle.mx_cli.specs.Words.{names_of}
use Rattle.mx_cli.proofs.FrameLemmas.{closed}
use Rattle.mx_explain.specs.Explained.{IsExplained, IsExplanation, names_in}
use Rattle.mx_explain.proofs.explanation.explain.Goals as goal

pub returns : goal.returns
returns g c =
    let t = g.O.Output.takes_all c.args.out.now in
    let u = g.E.Output.takes_all c.args.err.now in
    let course = course_of c.run_and_explain-ended.result in
    let mid = seen g.O.Output g.E.Output c.run_and_explain-ended.new.out c.args.err.now in
    let new = seen g.O.Output g.E.Output c.close.new.out c.close.new.err in
    let takes = subst (λ (b : Bool). Closes (names_of c.names.result) b u course mid new c.close.result) c.run_and_explain-ended.ensures.prints.stays c.close.ensures.closes in
    let named = subst (λ (names : Text × Text). Closes names t u course mid new c.close.result) c.names.ensures takes in
    record {
      explains = closed (IsExplanation (IsExplained (g.S.Source.told c.args.source.now) c.args.plan.now (text_of c.args.second) c.args.is_script)) (names_in c.args.plan.now (text_of c.args.second)) t u (seen g.O.Output g.E.Output c.args.out.now c.args.err.now) new mid.out mid.refused mid.kept_back
          c.close.result course c.run_and_explain-ended.ensures.prints.shows c.run_and_explain-ended.ensures.prints.refused named;
    }
