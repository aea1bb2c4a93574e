use Rattle.std.proofs.Common.{◌≡◌, ◌++◌, string_bytes, drop}
use Rattle.mx_play.specs.SessionScripts.{session_script}
use Rattle.mx_play.proofs.session_script.add_script.Given as goal

abbrev pub invariant-loop-line : goal.invariant-loop-line
invariant-loop-line l =
    string_bytes l.fn.text ++ session_script l.plan l.lines
    ≡ string_bytes l.text ++ session_script l.plan (drop l.line-index l.lines)
