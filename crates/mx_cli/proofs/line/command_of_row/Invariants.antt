use Rattle.std.proofs.Common.{map, take}
use Rattle.mx_cli.specs.Table.{app_with, rule_of_argument}
use Rattle.mx_cli.specs.Words.{IsCommand}
use Rattle.mx_cli.proofs.line.command_of_row.Given as goal

abbrev pub invariant-loop-argument : goal.invariant-loop-argument
invariant-loop-argument l = IsCommand (app_with l.row.name.now (map rule_of_argument (take l.argument-index l.argument-items))) l.command
