-- What the words of a line of a session ask for.
use Rattle.std.specs.Prelude.{◌==◌, ◌||◌, Bool, true, List, [], ◌∷◌, Option, Some, None, Result, Ok, codes, length, position, if◌then◌else◌}
use Rattle.std.specs.Option.{option_map_or}
use Rattle.std.specs.Str.{bytes_eq}
use Rattle.mx_plan.specs.Text.{Text}
use Rattle.mx_lines.specs.Lines.{line_of}
use Rattle.mx_lines.specs.Names.{Known}
use Rattle.mx_lines.specs.Numbers.{number_of}
use Rattle.mx_lines.specs.Refusals.{and_then, refused}
use Rattle.mx_lines.specs.declared.commands.SessionCommand.{SessionCommand}
use Rattle.mx_lines.specs.declared.commands.SessionCommand.TheVariants as command
use Rattle.mx_lines.specs.declared.errors.Expected.TheVariants as expected
use Rattle.mx_lines.specs.declared.errors.LineError.{LineError}
use Rattle.mx_lines.specs.declared.errors.LineFault.TheVariants as fault
use Rattle.mx_lines.specs.declared.errors.OwnWord.{OwnWord}
use Rattle.mx_lines.specs.declared.errors.OwnWord.TheVariants.{Show, Undo, Redo, Events, Script, Save, Mark, Help, End}
use Rattle.mx_lines.specs.declared.line.ScriptLine.{ScriptLine}
use Rattle.mx_lines.specs.declared.line.ScriptLine.TheVariants as line

abbrev pub is_end : Text → Bool
is_end text =
    bytes_eq text (codes "end") || (bytes_eq text (codes "quit") || bytes_eq text (codes "exit"))

-- which word of a session (and not of a script) this text is, if it is one
abbrev pub own_word : Text → Option OwnWord
own_word text =
    if bytes_eq text (codes "show") then Some Show
    else if bytes_eq text (codes "undo") then Some Undo
    else if bytes_eq text (codes "redo") then Some Redo
    else if bytes_eq text (codes "events") then Some Events
    else if bytes_eq text (codes "script") then Some Script
    else if bytes_eq text (codes "save") then Some Save
    else if bytes_eq text (codes "mark") then Some Mark
    else if bytes_eq text (codes "help") then Some Help
    else if is_end text then Some End
    else None

-- what a word of a session asks for if no word follows it
abbrev pub alone : OwnWord → Result SessionCommand LineError
alone Show = Ok (command.Show None)
alone Undo = Ok (command.Undo 1)
alone Redo = Ok command.Redo
alone Events = Ok command.Events
alone Script = Ok command.Script
alone Save = refused fault.WordCount 0 (expected.OwnArguments Save)
alone Mark = refused fault.WordCount 0 (expected.OwnArguments Mark)
alone Help = Ok command.Help
alone End = Ok command.End

-- the command that undoes this number of lines, or the fault that the text is no number
abbrev pub taken_back : Text → Result SessionCommand LineError
taken_back count =
    option_map_or (λ number. Ok (command.Undo number)) (number_of count)
    (refused fault.NotNumber 1 expected.Number)

module _ (names : Known) where
  -- the command that shows the node of this name, or the fault that there is no such node
  abbrev pub shown : Text → Result SessionCommand LineError
  shown name =
      option_map_or (λ node. Ok (command.Show (Some node)))
      (position (bytes_eq name) names.nodes) (refused fault.NoNode 1 expected.Node)

  -- what a word of a session asks for with this text after it; the flag says whether that is the
  -- last word
  abbrev pub with_one : OwnWord → Text → Bool → Result SessionCommand LineError
  with_one Show name true = shown name
  with_one Undo count true = taken_back count
  with_one Save name true = Ok command.Save
  with_one Mark text true = Ok command.Mark
  with_one word text is_last = refused fault.WordCount 0 (expected.OwnArguments word)

  -- what a word of a session asks for with the words after it
  abbrev pub own_command : OwnWord → List Text → Result SessionCommand LineError
  own_command word [] = alone word
  own_command word (text ∷ more) = with_one word text (length more == 0)

-- the command that does a script line
abbrev pub doing : ScriptLine → SessionCommand
doing (line.Does line) = command.Does line
doing line.Expects = command.Expects
doing line.Nothing = command.Nothing

module _ (names : Known) where
  -- what a line asks for: if its first word is one of a session (and not of a script), what that
  -- asks for; otherwise what the line asks for in a script
  abbrev pub command_by : List Text → Text → List Text → Result SessionCommand LineError
  command_by words word arguments =
      option_map_or (λ own. own_command names own arguments) (own_word word)
      (and_then (line_of names words) (λ line. Ok (doing line)))

  abbrev pub command_of : List Text → Result SessionCommand LineError
  command_of [] = Ok command.Nothing
  command_of (word ∷ arguments) = command_by (word ∷ arguments) word arguments
