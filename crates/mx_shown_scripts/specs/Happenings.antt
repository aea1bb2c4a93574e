-- What the lines of a script do, up to the first that is not done.
use Rattle.std.specs.Prelude.{ℕ, ◌≡◌, List, [], ◌∷◌, ◌++◌, Option, Some, None}
use Rattle.mx_nodelaws.specs.Core.{Core}
use Rattle.mx_plan.specs.Text.{Text}
use Rattle.mx_plan.specs.Fields.{Fields}
use Rattle.mx_event_files.specs.Scripts.{DoesAll, StopsAt, number_after, of_line}
use Rattle.mx_scripts.specs.Lines.{DoesText, IsNotDone}
use Rattle.mx_scripts.specs.Failures.{IsRefused}
use Rattle.mx_scripts.specs.States.{RunState}
use Rattle.mx_event_files.specs.declared.happening.Happening.{Happening}
use Rattle.mx_shown_scripts.specs.declared.happenings.LineRecorder.{LineRecorder}
use Rattle.mx_scripts.specs.declared.line_failure.LineFailure.{LineFailure}
use Rattle.mx_scripts.specs.declared.line_failure.RefusedLine.{RefusedLine}
use Rattle.mx_scripts.specs.declared.state.SessionEvent.{SessionEvent}

-- an event was listed
pub record AddsOne (recorder : LineRecorder) (event : SessionEvent) (next : LineRecorder)
    : Type 0 where
  pub number : next.number ≡ recorder.number
  pub listed : next.happened.items
      ≡ recorder.happened.items ++ record { line = recorder.number; event = event } ∷ []

module _ {H S M : Type 0} (core : Core H S M) (p : Fields) where
  -- a line was done, and what it did was listed; or the line is refused, and nothing was
  abbrev pub Does : ℕ → Text → RunState S M → RunState S M → List Happening → List Happening
      → Option RefusedLine → Type 0
  Does number text old new before after None =
      (es : List SessionEvent) × DoesText core p text old es new
      × (after ≡ before ++ of_line number es)
  Does number text old new before after (Some refused) =
      (why : LineFailure) × IsNotDone core p text old why × IsRefused number why refused
      × (after ≡ before)

  -- the state after the lines that were done, which did this: all lines, or those before the one
  -- that is refused
  abbrev pub Reaches : List Text → RunState S M → List Happening → Option RefusedLine
      → RunState S M → Type 0
  Reaches texts old happened None last = DoesAll core p 0 texts old happened last
  Reaches texts old happened (Some refused) last =
      (n : ℕ) × (why : LineFailure) × StopsAt core p texts old n happened last why
      × IsRefused (number_after n) why refused

  abbrev pub HasDone : List Text → RunState S M → List Happening → Option RefusedLine → Type 0
  HasDone texts old happened refused =
      (last : RunState S M) × Reaches texts old happened refused last
