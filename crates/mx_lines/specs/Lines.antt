-- What the words of a line of a script ask for.
use Rattle.std.specs.Prelude.{ℕ, List, [], ◌∷◌, Result, Ok, codes, nat_le, if◌then◌else◌}
use Rattle.std.specs.Option.{option_map_or}
use Rattle.std.specs.Str.{bytes_eq}
use Rattle.mx_stamps.specs.declared.limits.TheConstants.{MAX_EVENTS}
use Rattle.mx_plan.specs.Text.{Text}
use Rattle.mx_lines.specs.Names.{Known}
use Rattle.mx_lines.specs.Numbers.{number_of}
use Rattle.mx_lines.specs.Orders.{order_at}
use Rattle.mx_lines.specs.Refusals.{and_then, refused}
use Rattle.mx_lines.specs.declared.errors.Expected.TheVariants as expected
use Rattle.mx_lines.specs.declared.errors.LineError.{LineError}
use Rattle.mx_lines.specs.declared.errors.LineFault.TheVariants as fault
use Rattle.mx_lines.specs.declared.line.ScriptLine.{ScriptLine}
use Rattle.mx_lines.specs.declared.line.ScriptLine.TheVariants.{Does, Expects, Nothing}

-- the number of times that a line is done, at most a million
abbrev pub times_of : Text → Result ℕ LineError
times_of text =
    option_map_or
    (λ times. if nat_le times MAX_EVENTS then Ok times else refused fault.TooMany 1 expected.Times)
    (number_of text) (refused fault.NotNumber 1 expected.Times)

-- what the words after `expect` ask for, which are those of an outcome
abbrev pub expects : List Text → Result ScriptLine LineError
expects [] = refused fault.WordCount 0 expected.Outcome
expects (word ∷ words) = Ok Expects

module _ (names : Known) where
  -- the line that is done this number of times; its first word is at this place
  abbrev pub line_at : ℕ → ℕ → Text → List Text → Result ScriptLine LineError
  line_at times place word words =
      and_then (order_at names place word words)
      (λ order. Ok (Does (record { times = times; order = order })))

  -- what the words after the number of times ask for
  abbrev pub done_times : List Text → ℕ → Result ScriptLine LineError
  done_times [] times = refused fault.WordCount 0 expected.Repetition
  done_times (word ∷ words) times = line_at times 2 word words

  -- what the words after `times` ask for
  abbrev pub repeated : List Text → Result ScriptLine LineError
  repeated [] = refused fault.WordCount 0 expected.Repetition
  repeated (count ∷ words) = and_then (times_of count) (done_times words)

  -- what the words of a line ask for
  abbrev pub line_of : List Text → Result ScriptLine LineError
  line_of [] = Ok Nothing
  line_of (word ∷ words) =
      if bytes_eq word (codes "times") then repeated words
      else if bytes_eq word (codes "expect") then expects words
      else line_at 1 0 word words
