use Rattle.std.proofs.Common.{drop}
use Rattle.mx_scripts.specs.States.{RunState}
use Rattle.mx_play.specs.Histories.{Leads}
use Rattle.mx_play.specs.Sessions.{line_events}
use Rattle.mx_play.proofs.undo.apply_lines.Given as goal

abbrev pub invariant-loop-line : goal.invariant-loop-line
invariant-loop-line g l =
    (last : RunState g.row.C.Denot g.row.C-Msg.Denot) → Leads g.C.Exclusion.core l.initial.state (line_events l.lines) last
    → Leads g.C.Exclusion.core l.state (line_events (drop l.line-index l.lines)) last
