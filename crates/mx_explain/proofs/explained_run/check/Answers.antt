use Rattle.std.proofs.Common.{false, subst}
use Rattle.mx_cli.specs.Frames.{Files}
use Rattle.mx_cli.specs.Printing.{Prints, null_output}
use Rattle.mx_driver.specs.Commands.{IsCheck}
use Rattle.mx_explain.specs.Explained.{IsReportFor}
use Rattle.mx_explain.proofs.explained_run.check.Goals as goal

pub returns : goal.returns
returns g c =
    subst (λ (files : Files). Prints (IsReportFor (IsCheck false false) (g.S.Source.told c.args.source.now) files) null_output null_output c.run_files.result) c.alone.ensures c.run_files.ensures.prints
