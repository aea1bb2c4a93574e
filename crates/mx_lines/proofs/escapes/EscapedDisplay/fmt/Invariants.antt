use Rattle.std.specs.Fmt.{HasWritten, IsPlainFormatter}
use Rattle.mx_lines.specs.Escapes.{shown_chars}
use Rattle.mx_lines.proofs.escapes.EscapedDisplay.fmt.Given as goal

abbrev pub invariant-loop-character : goal.invariant-loop-character
invariant-loop-character g l = IsPlainFormatter l.initial.f → HasWritten g.W.Write.write_str_gives l.initial.f (shown_chars l.yielded) l.f
