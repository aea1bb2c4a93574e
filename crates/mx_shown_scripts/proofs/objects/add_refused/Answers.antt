use Rattle.std.proofs.Common.{◌≡◌, ◌++◌, append_assoc, string_bytes}
use Rattle.std.specs.Prelude.{codes, decimal}
use Rattle.mx_lines.specs.Texts.{fault_text}
use Rattle.mx_plan.specs.Text.{Text}
use Rattle.mx_shown_scripts.proofs.ResultLemmas.{on_some}
use Rattle.mx_shown_scripts.proofs.objects.add_refused.Goals as goal

pub returns : goal.returns
returns c =
    let line = c.args.line.now in
    on_some (λ (message : Text). string_bytes c.write.new.self ≡ string_bytes c.args.text.now
    ++ (codes "{\"line\":" ++ decimal line.number ++ codes ",\"fault\":\"" ++ fault_text line.fault ++ codes "\",\"message\":" ++ message ++ codes "}\n"))
    (string_bytes c.in_ok-message.message) c.write.result (simp append_assoc c.write.ensures.bytes)
