use Rattle.std.proofs.Common.{◌∙◌, ap, subst}
use Rattle.std.proofs.lemmas.List.{take_all}
use Rattle.clap.specs.Words.{App, app_of}
use Rattle.mx_cli.specs.Table.{with_commands}
use Rattle.mx_cli.specs.Words.{IsCommand}
use Rattle.mx_cli.proofs.LineLemmas.{commands_more}
use Rattle.mx_cli.proofs.line.with_commands.Goals as goal

pub loop-id-preserved : goal.loop-id-preserved
loop-id-preserved c =
    commands_more (app_of c.args.line) c.args.ids.now c.loop-id.id-index _ c.loop-id-test.true c.loop-id.invariant (subst (λ (a : App). IsCommand a c.in_ok-command_of_row.field-0) c.row_of.ensures c.in_ok-command_of_row.ensures) c.in_ok-line.ensures

pub returns : goal.returns
returns c = c.loop-id.invariant ∙ ap (with_commands (app_of c.args.line)) (take_all c.loop-id.id-index c.args.ids.now c.loop-id-test.false)
