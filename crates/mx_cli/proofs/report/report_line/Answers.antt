use Rattle.mx_cli.proofs.OutputLemmas.{told_ok}
use Rattle.mx_cli.proofs.report.report_line.Goals as goal

pub returns-in-Ok-clause-told : goal.returns-in-Ok-clause-told
returns-in-Ok-clause-told g c =
    told_ok (g.D.Display.output c.args.line) (g.E.Output.takes_all c.args.err.now) (g.E.Output.written c.args.err.now) (g.E.Output.written c.write_line.new.out) c.in-Ok.ensures.ok
