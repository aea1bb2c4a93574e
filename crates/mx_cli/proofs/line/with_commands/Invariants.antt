use Rattle.std.proofs.Common.{◌≡◌, take}
use Rattle.clap.specs.Words.{app_of}
use Rattle.mx_cli.specs.Table.{with_commands}
use Rattle.mx_cli.proofs.line.with_commands.Given as goal

abbrev pub invariant-loop-id : goal.invariant-loop-id
invariant-loop-id l = app_of l.line ≡ with_commands (app_of l.initial.line) (take l.id-index l.ids)
