use Rattle.std.proofs.Common.{◌≡◌, ◌++◌, string_bytes, drop}
use Rattle.mx_format.specs.Lines.{each_text}
use Rattle.mx_play.specs.Printed.{steps_text, typed_line}
use Rattle.mx_play.proofs.undo.add_steps.Given as goal

abbrev pub invariant-loop-line : goal.invariant-loop-line
invariant-loop-line l =
    string_bytes l.fn.text ++ steps_text l.word l.lines l.fn.events
    ≡ string_bytes l.text ++ each_text typed_line (drop l.line-index l.lines)
