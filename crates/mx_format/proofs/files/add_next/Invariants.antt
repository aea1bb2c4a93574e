use Rattle.std.proofs.Common.{◌≡◌, ◌++◌, string_bytes, drop}
use Rattle.mx_format.specs.Lines.{each_text}
use Rattle.mx_format.specs.Files.{next_text}
use Rattle.mx_format.proofs.files.add_next.Given as goal

abbrev pub invariant-loop-entry : goal.invariant-loop-entry
invariant-loop-entry l =
    string_bytes l.fn.text ++ each_text (λ entry. next_text l.plan entry.event) l.trace
    ≡ string_bytes l.text ++ each_text (λ entry. next_text l.plan entry.event) (drop l.entry-index l.trace)
