use Rattle.std.proofs.Common.{Option, subst, sym}
use Rattle.std.specs.Borrow.{Bor}
use Rattle.mx_plan.specs.Text.{Text}
use Rattle.mx_cli.specs.Printing.{Prints, null_output}
use Rattle.mx_cli.specs.Requests.{text_of}
use Rattle.mx_explain.specs.Explained.{IsExplained}
use Rattle.mx_explain.proofs.explained_run.run.Goals as goal

pub returns-in-Some : goal.returns-in-Some
returns-in-Some g c =
    let asked = c.args.asked.now in
    let told = g.S.Source.told c.args.source.now in
    subst (λ (o : Option (Bor Text)). Prints (IsExplained told asked.plan.now (text_of o) asked.is_script) null_output null_output c.run_both.result) (sym c.in-Some.is) c.run_both.ensures

pub returns-in-None : goal.returns-in-None
returns-in-None g c =
    let asked = c.args.asked.now in
    let told = g.S.Source.told c.args.source.now in
    subst (λ (o : Option (Bor Text)). Prints (IsExplained told asked.plan.now (text_of o) asked.is_script) null_output null_output c.check.result) (sym c.in-None.is) c.check.ensures
