use Rattle.std.proofs.Common.{◌∙◌, ap, string_bytes}
use Rattle.mx_lines.specs.declared.errors.LineFault.TheVariants.{NotText}
use Rattle.mx_plan.specs.Text.{Text}
use Rattle.mx_event_files.specs.ScriptFiles.{IsNotTextLine}
use Rattle.mx_scripts.specs.Failures.{script_line}
use Rattle.mx_event_files.proofs.StopLemmas.{with_line}
use Rattle.mx_event_files.proofs.texts.not_text.Goals as goal

pub returns : goal.returns
returns c =
    let k = c.args.number in
    with_line IsNotTextLine (script_line k NotText (string_bytes c.new.result)) c.stop_with.result
    (λ line is. (k, is ∙ ap (λ (t : Text). script_line k NotText t) c.new.ensures.bytes)) c.stop_with.ensures
