use Rattle.std.proofs.Common.{◌≡◌, ◌++◌, drop, string_bytes}
use Rattle.mx_format.specs.Lines.{each_text}
use Rattle.mx_judge.specs.Messages.{message_json}
use Rattle.mx_judge.proofs.entry_json.add_messages.Given as goal

abbrev pub invariant-loop-message : goal.invariant-loop-message
invariant-loop-message l =
    string_bytes l.fn.text ++ each_text (message_json l.plan) l.messages ≡ string_bytes l.text ++ each_text (message_json l.plan) (drop l.message-index l.messages)
