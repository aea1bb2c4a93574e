use Rattle.std.proofs.Common.{List}
use Rattle.mx_scripts.specs.Lines.{Performs, StopsAfter}
use Rattle.mx_scripts.specs.States.{RunState}
use Rattle.mx_scripts.specs.Told.{IsTold}
use Rattle.mx_scripts.specs.declared.line_failure.LineFailure.{LineFailure}
use Rattle.mx_scripts.specs.declared.state.SessionEvent.{SessionEvent}
use Rattle.mx_scripts.proofs.lines.perform.Given as goal

-- what happens and is told from here on, after what was so far, is the whole
abbrev pub invariant-loop-count : goal.invariant-loop-count
invariant-loop-count g l = record {
  told : (es : List SessionEvent) × IsTold g.C.Exclusion.core (λ k. g.K.Recorder.noted k l.plan) es l.initial.state l.state l.initial.recorder l.recorder;
  does : (last : RunState g.row.C.Denot g.row.C-Msg.Denot) → (told : g.row.K.Denot) → (es : List SessionEvent)
      → Performs g.C.Exclusion.core l.order l.count l.state es last × IsTold g.C.Exclusion.core (λ k. g.K.Recorder.noted k l.plan) es l.state last l.recorder told
      → (all : List SessionEvent) × Performs g.C.Exclusion.core l.order 0 l.initial.state all last
      × IsTold g.C.Exclusion.core (λ k. g.K.Recorder.noted k l.plan) all l.initial.state last l.initial.recorder told;
  stops : (why : LineFailure) → (es : List SessionEvent) → StopsAfter g.C.Exclusion.core l.order l.count l.state es why
      → (all : List SessionEvent) × StopsAfter g.C.Exclusion.core l.order 0 l.initial.state all why;
}
