use Rattle.mx_play.specs.TypedLines.{IsTaking, to_come}
use Rattle.mx_play.proofs.typed_lines.TypedLines.next.Given as goal

abbrev pub invariant-loop-step : goal.invariant-loop-step
invariant-loop-step g l =
    IsTaking (to_come g.R.Read.remaining l.initial.self) (to_come g.R.Read.remaining l.self) l.is_long l.line.items
