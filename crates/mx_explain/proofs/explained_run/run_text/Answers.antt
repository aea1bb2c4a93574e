use Rattle.std.proofs.Common.{Bool, subst, sym}
use Rattle.mx_cli.specs.Printing.{Prints, null_output}
use Rattle.mx_explain.specs.Explained.{IsTextReport}
use Rattle.mx_explain.proofs.explained_run.run_text.Goals as goal

pub returns-then-is_script : goal.returns-then-is_script
returns-then-is_script c =
    subst (λ (b : Bool). Prints (IsTextReport b c.args.plan.now c.args.text.now) null_output null_output c.run_script.result) (sym c.if-is_script.true) c.run_script.ensures.prints

pub returns : goal.returns
returns c =
    subst (λ (b : Bool). Prints (IsTextReport b c.args.plan.now c.args.text.now) null_output null_output c.replay.result) (sym c.if-is_script.false) c.replay.ensures
