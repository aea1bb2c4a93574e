use Rattle.std.proofs.Common.{drop}
use Rattle.mx_scripts.specs.States.{RunState}
use Rattle.mx_play.specs.Histories.{Leads}
use Rattle.mx_play.proofs.undo.apply_all.Given as goal

abbrev pub invariant-loop-event : goal.invariant-loop-event
invariant-loop-event g l =
    (last : RunState g.row.C.Denot g.row.C-Msg.Denot) → Leads g.C.Exclusion.core l.initial.state l.events last
    → Leads g.C.Exclusion.core l.state (drop l.event-index l.events) last
