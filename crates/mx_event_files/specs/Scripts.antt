-- What the lines of a script do, one after another, and what is printed of one that is not done.
use Rattle.std.specs.Prelude.{ℕ, suc, ◌≡◌, List, [], ◌∷◌, ◌++◌, Some, map, slice_get, min, string_bytes, take, ◌+◌, ◌-◌, ◌^◌, ⊤}
use Rattle.mx_nodelaws.specs.Core.{Core}
use Rattle.mx_plan.specs.Text.{Text}
use Rattle.mx_plan.specs.Fields.{Fields}
use Rattle.mx_lines.specs.declared.errors.LineFault.{LineFault}
use Rattle.mx_scripts.specs.States.{RunState}
use Rattle.mx_scripts.specs.declared.line_failure.LineFailure.{LineFailure}
use Rattle.mx_scripts.specs.declared.state.SessionEvent.{SessionEvent}
use Rattle.mx_cli.specs.declared.stop.Stop.{Stop}
use Rattle.mx_cli.specs.declared.stop.Stop.TheVariants as stop
use Rattle.mx_scripts.specs.Failures.{fault_of, script_line}
use Rattle.mx_scripts.specs.Lines.{DoesText, IsNotDone}
use Rattle.mx_event_files.specs.declared.happening.Happening.{Happening}

-- the number of a line after `done` others: they count from 1, up to the greatest of 64 bits
abbrev pub number_after : ℕ → ℕ
number_after done = min (done + 1) (2 ^ 64 - 1)

-- these events, as what line `number` did
abbrev pub of_line : ℕ → List SessionEvent → List Happening
of_line number = map (λ event. record { line = number; event = event })

-- the text is printed of line k, which is not done for this reason: its fault, and a message
abbrev pub IsLineOf : ℕ → LineFailure → Text → Type 0
IsLineOf k why line =
    (fault : LineFault) × (message : Text) × (fault_of why ≡ Some fault)
    × (line ≡ script_line k fault message)

-- the reason to stop has a line that satisfies `IsIt`, or memory ran out
abbrev pub HasLine : (Text → Type 0) → Stop → Type 0
HasLine IsIt (stop.Line line) = IsIt (string_bytes line)
HasLine IsIt (stop.Fault fault) = ⊥
HasLine IsIt stop.Writer = ⊥
HasLine IsIt stop.Memory = ⊤

module _ {H S M : Type 0} (core : Core H S M) (p : Fields) where
  -- all lines were done, each in the state to which those before it lead, the first of them after
  -- `done` others; and this is what they did
  abbrev pub DoesAll : ℕ → List Text → RunState S M → List Happening → RunState S M → Type 0
  DoesAll done [] old happened new = (new ≡ old) × (happened ≡ [])
  DoesAll done (text ∷ texts) old happened new =
      (mid : RunState S M) × (es : List SessionEvent) × (rest : List Happening)
      × DoesText core p text old es mid × (happened ≡ of_line (number_after done) es ++ rest)
      × DoesAll (suc done) texts mid rest new

  -- the first n lines were done, and did this; the next one is not done, for this reason
  pub record StopsAt (texts : List Text) (old : RunState S M) (n : ℕ)
      (happened : List Happening) (mid : RunState S M) (why : LineFailure) : Type 0 where
    pub does : DoesAll 0 (take n texts) old happened mid
    pub text : Text
    pub next : slice_get texts n ≡ Some text
    pub not_done : IsNotDone core p text mid why

  -- the text is the line of the first line that is not done
  abbrev pub StopsBy : List Text → RunState S M → Text → Type 0
  StopsBy texts old line =
      (n : ℕ) × (why : LineFailure) × (happened : List Happening) × (mid : RunState S M)
      × StopsAt texts old n happened mid why × IsLineOf (number_after n) why line
