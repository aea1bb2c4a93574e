use Rattle.mx_cli.specs.Printing.{course_of, sight}
use Rattle.mx_cli.proofs.FrameLemmas.{prints_as}
use Rattle.mx_explain.specs.Explained.{IsAsked, IsExplanation, IsToldOf}
use Rattle.mx_explain.proofs.ExplainLemmas.{is_explanation}
use Rattle.mx_explain.proofs.explanation.run_and_explain.Goals as goal

pub returns : goal.returns
returns g c =
    let ended = c.run-ended.result in
    let R = IsAsked (g.S.Source.told c.args.source.now) c.args.asked.now in
    record {
      prints = prints_as (IsToldOf (course_of ended)) (IsExplanation R) (is_explanation R ended c.run-ended.ensures) (sight g.O.Output c.args.out.now) (sight g.O.Output c.print_files.new.out) c.print_files.result c.print_files.ensures.prints;
    }
