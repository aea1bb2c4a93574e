use Rattle.std.proofs.Common.{ap, true, ◌∙◌}
use Rattle.clap.specs.Words.{App}
use Rattle.clap.specs.Simple.{app_of_fields}
use Rattle.clap.specs.declared.builder.command.Command.{Command}
use Rattle.clap.specs.declared.builder.command.Command.TheOpen.{Command-F}
use Rattle.mx_cli.proofs.line.start_line.Goals as goal

pub returns : goal.returns
returns c =
    let named = ap app_of_fields c.in_ok-bin_name.ensures.0 ∙ c.new.ensures.app in
    let versioned = ap app_of_fields c.about.ensures ∙ ap app_of_fields c.version.ensures
    ∙ ap (λ (a : App). let b : App = record a { top = record a.top { has_version = true } } in b) named in
    ap app_of_fields c.after_help-begun.ensures ∙ ap app_of_fields (c.disable_help_subcommand.ensures
    ∙ ap (λ (f : Command-F Command). let g : Command-F Command = record f { disable_help_subcommand = true } in g) (c.subcommand_required.ensures
    ∙ ap (λ (f : Command-F Command). let g : Command-F Command = record f { subcommand_required = true } in g) c.no_binary_name.ensures))
    ∙ ap (λ (a : App). let b : App = record a { top = record a.top { no_binary_name = true; subcommand_required = true; disable_help_subcommand = true } } in b) versioned
