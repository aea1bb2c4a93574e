-- What is added to a command, and to a command line.
use Rattle.std.proofs.Common.{◌≡◌, ◌∙◌, ◌+◌, ◌<◌, ◌||◌, ◌++◌, ◌∷◌, ap, ap₂, refl, sym, get_or, length, take, ℕ, List, []}
use Rattle.std.proofs.lemmas.List.{take_more}
use Rattle.clap.specs.declared.builder.arg.Arg.{Arg}
use Rattle.clap.specs.declared.builder.command.Command.{Command}
use Rattle.clap.specs.Words.{AddsArg, AddsSubcommand, App, Rule, Text, app_of, with_rule, with_subcommand}
use Rattle.mx_cli.specs.Table.{app_with, command_app, with_commands}
use Rattle.mx_cli.specs.Words.{IsArgument, IsCommand}
use Rattle.mx_cli.specs.declared.table.CommandId.{CommandId}

module _ {before : Command} {name : Text} {rules : List Rule} {argument : Arg} {rule : Rule} where
  -- a command with one more argument
  pub with_next : {after : Command} → IsCommand (app_with name rules) before → IsArgument rule argument → AddsArg before argument after → IsCommand (app_with name (rules ++ rule ∷ [])) after
  with_next h i adds = record {
    app = adds.shape i.local ∙ ap₂ with_rule h.app i.rule;
    local = adds.globals ∙ ap₂ ◌||◌ h.local i.local;
  }

-- a command line with one more command
with_command : {before after command : Command} {line app : App} → app_of before ≡ line → IsCommand app command → AddsSubcommand before command after → app_of after ≡ with_subcommand line app.top
with_command e h adds = adds.shape h.local ∙ ap₂ with_subcommand e (ap (λ (a : App). a.top) h.app)

commands_push : (line : App) (ids : List CommandId) (i : CommandId) → with_commands line (ids ++ i ∷ []) ≡ with_subcommand (with_commands line ids) (command_app i).top
commands_push line [] i = refl
commands_push line (x ∷ ids) i = commands_push (with_subcommand line (command_app x).top) ids i

-- one more of these commands is added
pub commands_more : (line : App) (ids : List CommandId) (k : ℕ) (d : CommandId) → k < length ids → {before after command : Command} → app_of before ≡ with_commands line (take k ids) → IsCommand (command_app (get_or ids k d)) command
    → AddsSubcommand before command after → app_of after ≡ with_commands line (take (k + 1) ids)
commands_more line ids k d lt e h adds =
    with_command e h adds ∙ sym (commands_push line (take k ids) (get_or ids k d)) ∙ sym (ap (with_commands line) (take_more ids k d lt))
