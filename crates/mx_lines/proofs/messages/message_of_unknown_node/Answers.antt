use Rattle.std.proofs.Common.{◌∙◌, ◌++◌, ap, string_bytes}
use Rattle.mx_lines.specs.Escapes.{shown}
use Rattle.mx_lines.proofs.EscapeLemmas.{printable_from}
use Rattle.mx_lines.proofs.messages.message_of_unknown_node.Goals as goal

pub returns : goal.returns
returns c =
    let said = c.in_ok-add_escaped_text.ensures ∙ ap (λ x. string_bytes c.in_ok-message.message ++ shown x) c.as_str.ensures.value in
    printable_from (string_bytes c.in_ok-message.message) (string_bytes c.add_escaped_text.new.text) (string_bytes c.write.new.self) c.in_ok-message.ensures.bytes said
