use Rattle.std.proofs.Common.{subst, sym}
use Rattle.std.proofs.lemmas.List.{map_more}
use Rattle.mx_cli.specs.Table.{app_with, rule_of_argument}
use Rattle.mx_cli.specs.Words.{IsCommand}
use Rattle.mx_cli.proofs.LineLemmas.{with_next}
use Rattle.mx_cli.proofs.line.command_of_row.Goals as goal

pub loop-argument-preserved : goal.loop-argument-preserved
loop-argument-preserved c =
    let row = c.args.row.now in
    let more = map_more rule_of_argument row.arguments.now c.loop-argument.argument-index _ c.loop-argument-test.true in
    subst (λ rules. IsCommand (app_with row.name.now rules) c.in_ok-command.command) (sym more) (with_next c.loop-argument.invariant c.clap_argument.ensures c.in_ok-command.ensures)
