use Rattle.std.proofs.Common.{◌∙◌, ap, refl}
use Rattle.std.proofs.lemmas.Result.{IfOk-weaker}
use Rattle.clap.proofs.OnLiterals.{clap_on_literals}
use Rattle.clap.specs.Words.{App}
use Rattle.mx_cli.specs.Table.{mx_app, with_commands}
use Rattle.mx_cli.specs.declared.table.TheConstants.{COMMANDS}
use Rattle.mx_cli.proofs.WordLemmas.{is_line}
use Rattle.mx_cli.proofs.line.whole_line.Goals as goal

pub returns : goal.returns
unfolding clap_on_literals mx_app
returns c =
    let whole = IfOk-weaker c.with_commands.result _ _ (λ made is. is ∙ ap (λ (l : App). with_commands l COMMANDS) c.in_ok-start_line.ensures) c.with_commands.ensures in
    is_line c.with_commands.result mx_app whole (record { plain = refl; free = refl })
