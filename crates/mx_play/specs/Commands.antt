-- What a line of a session asks for.
use Rattle.std.specs.Prelude.{◌≡◌, ◌≤◌, ◌<◌, ⊤, Bool, true, false, List, [], ◌∷◌, Option, Result, Ok, Err, IfSome, length}
use Rattle.std.specs.Str.{IsUtf8}
use Rattle.std.specs.Borrow.{Bor}
use Rattle.mx_lines.specs.Commands.{command_of}
use Rattle.mx_lines.specs.Names.{known_of, texts_of}
use Rattle.mx_lines.specs.Words.{AreWords, before_comment}
use Rattle.mx_lines.specs.declared.commands.SessionCommand.{SessionCommand}
use Rattle.mx_lines.specs.declared.commands.SessionCommand.TheVariants.{Does, End}
use Rattle.mx_lines.specs.declared.errors.LineError.{LineError}
use Rattle.mx_plan.specs.Text.{Text}
use Rattle.mx_plan.specs.Fields.{Fields}
use Rattle.mx_lines.specs.Within.{IsOrderWithin}
use Rattle.mx_scripts.specs.declared.line_failure.LineFailure.TheVariants.{WrongWord}
use Rattle.mx_play.specs.Lines.{IsFirstLine}
use Rattle.mx_play.specs.declared.input_fault.InputFault.{InputFault}
use Rattle.mx_play.specs.declared.input_fault.InputFault.TheVariants.{NotText, Line, TooLong, TooFew, NoUndo, Unwritten}
use Rattle.mx_play.specs.declared.input.Input.{Input}
use Rattle.mx_play.specs.declared.input.Input.TheVariants as input
use Rattle.mx_play.specs.declared.line_sources.TheConstants.{MAX_LINE}

-- if the command does a line of a script, an event in that line names only nodes and registers of
-- the plan
abbrev pub IsOverPlan : Fields → SessionCommand → Type 0
IsOverPlan p (Does line) = IsOrderWithin (length p.nodes) (length p.registers) line.order
IsOverPlan p _ = ⊤

-- if the input is a command, the same holds of that command
abbrev pub IsInput : Fields → Input → Type 0
IsInput p (input.Command command) = IsOverPlan p command
IsInput p _ = ⊤

-- whether the command ends the session
abbrev pub ends : SessionCommand → Bool
ends End = true
ends _ = false

abbrev pub is_end : Input → Bool
is_end (input.Command command) = ends command
is_end _ = false

-- the second of these words; nothing if there are fewer
abbrev pub second_of : List Text → Text
second_of [] = []
second_of (first ∷ []) = []
second_of (first ∷ second ∷ more) = second

abbrev pub IsSecondWord : Text → Text → Type 0
IsSecondWord line word =
    (words : List (Bor Text)) × AreWords (before_comment line) words
    × (word ≡ second_of (texts_of words))

module _ (p : Fields) where
  -- the words of a line ask for this command, or have this error
  abbrev pub Comes : Text → Result SessionCommand LineError → Type 0
  Comes line result =
      (words : List (Bor Text)) × AreWords (before_comment line) words
      × (command_of (known_of p) (texts_of words) ≡ result)

  -- a line asks for this command: it is not too long, is in UTF-8, and no word of it is wrong
  abbrev pub AsksFor : Text → SessionCommand → Type 0
  AsksFor line command = (length line ≤ MAX_LINE) × IsUtf8 line × Comes line (Ok command)

  -- a line has this fault: it is too long, not in UTF-8, or has a wrong word
  abbrev pub HasFault : Text → InputFault → Type 0
  HasFault line TooLong = MAX_LINE < length line
  HasFault line NotText = ¬ IsUtf8 line
  HasFault line (Line why) =
      (error : LineError) × Comes line (Err error) × (why ≡ WrongWord error)
  HasFault line (TooFew lines) = ⊥
  HasFault line NoUndo = ⊥
  HasFault line Unwritten = ⊥

  -- the line asks for the command of this input, and is in the buffer; or it has the fault of the
  -- input
  abbrev pub IsInputOf : Text → Input → Text → Type 0
  IsInputOf line (input.Command command) buffer = (buffer ≡ line) × AsksFor line command
  IsInputOf line (input.Fault fault) buffer = HasFault line fault
  IsInputOf line input.Eof buffer = ⊥

  -- the input is that of the first of these lines; or there are no lines, and the input is the end
  abbrev pub ReadsInput : Option (List Text) → Input → Text → Option (List Text) → Type 0
  ReadsInput lines input.Eof buffer rest = IfSome lines (λ known. known ≡ [])
  ReadsInput lines of buffer rest =
      (line : Text) × IsInputOf line of buffer × IsFirstLine line lines rest
