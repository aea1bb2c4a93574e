use Rattle.std.proofs.Common.{◌≡◌, ◌++◌, string_bytes, drop}
use Rattle.mx_format.specs.Lines.{each_text}
use Rattle.mx_play.specs.SessionScripts.{asking_line}
use Rattle.mx_play.proofs.session_script.add_lines.Given as goal

abbrev pub invariant-loop-event : goal.invariant-loop-event
invariant-loop-event l =
    string_bytes l.fn.text ++ each_text (asking_line l.plan) l.events
    ≡ string_bytes l.text ++ each_text (asking_line l.plan) (drop l.event-index l.events)
