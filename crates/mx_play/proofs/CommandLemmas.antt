-- What a line of a session asks for is over the names by which it is read.
use Rattle.std.proofs.Common.{◌≡◌, Bool, true, false, List, [], ◌∷◌, Option, Some, None, Result, Ok, IfOk, length, subst, sym}
use Rattle.std.specs.Bool.{⊤}
use Rattle.std.specs.List.{position}
use Rattle.std.specs.Option.{option_map_or}
use Rattle.std.specs.Prelude.{◌==◌}
use Rattle.std.specs.Str.{bytes_eq}
use Rattle.mx_plan.specs.Text.{Text}
use Rattle.mx_lines.specs.Commands.{alone, command_of, doing, own_command, own_word, with_one}
use Rattle.mx_lines.specs.Lines.{line_of}
use Rattle.mx_lines.specs.Names.{Known, known_of}
use Rattle.mx_lines.specs.Numbers.{number_of}
use Rattle.mx_lines.specs.declared.commands.SessionCommand.{SessionCommand}
use Rattle.mx_lines.specs.declared.errors.LineError.{LineError}
use Rattle.mx_lines.specs.declared.errors.OwnWord.{OwnWord}
use Rattle.mx_lines.specs.declared.errors.OwnWord.TheVariants.{Show, Undo, Redo, Events, Script, Save, Mark, Help, End}
use Rattle.mx_lines.specs.declared.line.ScriptLine.{ScriptLine}
use Rattle.mx_lines.specs.declared.line.ScriptLine.TheVariants as script_line
use Rattle.mx_lines.proofs.WithinLemmas.{any, line_within, LineWithin, or_wrong, passed}
use Rattle.mx_lines.specs.Within.{IsLineWithin}
use Rattle.mx_plan.specs.Fields.{Fields}
use Rattle.mx_play.specs.Commands.{IsOverPlan}

module _ (p : Fields) where
  abbrev names : Known
  names = known_of p

  abbrev Over : SessionCommand → Type 0
  Over command = IsOverPlan p command

  alone_over : (word : OwnWord) → IfOk (alone word) Over
  alone_over Show = tt
  alone_over Undo = tt
  alone_over Redo = tt
  alone_over Events = tt
  alone_over Script = tt
  alone_over Save = tt
  alone_over Mark = tt
  alone_over Help = tt
  alone_over End = tt

  one_over : (word : OwnWord) (text : Text) (is_last : Bool) → IfOk (with_one names word text is_last) Over
  one_over Show text true = or_wrong (λ n. ⊤) Over (position (bytes_eq text) names.nodes) _ _ (any (position (bytes_eq text) names.nodes)) (λ n h. tt)
  one_over Show text false = tt
  one_over Undo text true = or_wrong (λ n. ⊤) Over (number_of text) _ _ (any (number_of text)) (λ n h. tt)
  one_over Undo text false = tt
  one_over Redo text true = tt
  one_over Redo text false = tt
  one_over Save text true = tt
  one_over Save text false = tt
  one_over Mark text true = tt
  one_over Mark text false = tt
  one_over Script text true = tt
  one_over Script text false = tt
  one_over Events text true = tt
  one_over Events text false = tt
  one_over Help text true = tt
  one_over Help text false = tt
  one_over End text true = tt
  one_over End text false = tt

  own_over : (word : OwnWord) (arguments : List Text) → IfOk (own_command names word arguments) Over
  own_over word [] = alone_over word
  own_over word (text ∷ more) = one_over word text (length more == 0)

  doing_over : (read : ScriptLine) → IsLineWithin (length names.nodes) (length names.registers) read → Over (doing read)
  doing_over (script_line.Does line) h = h
  doing_over script_line.Expects h = tt
  doing_over script_line.Nothing h = tt

  either_over : (o : Option OwnWord) (f : OwnWord → Result SessionCommand LineError) (r : Result SessionCommand LineError)
      → ((word : OwnWord) → IfOk (f word) Over) → IfOk r Over → IfOk (option_map_or f o r) Over
  either_over None f r own line = line
  either_over (Some word) f r own line = own word

  command_over : (words : List Text) → IfOk (command_of names words) Over
  command_over [] = tt
  command_over (word ∷ arguments) =
      either_over (own_word word) _ _ (λ own. own_over own arguments)
      (passed (LineWithin names) Over (line_of names (word ∷ arguments)) _
      (line_within names (word ∷ arguments)) doing_over)

  -- what the words of a line ask for is over the names
  pub input_over : (words : List Text) (command : SessionCommand)
      → ◌≡◌ {A = Result SessionCommand LineError} (Ok command) (command_of names words)
      → Over command
  input_over words command is =
      subst (λ (x : Result SessionCommand LineError). IfOk x Over) (sym is) (command_over words)
