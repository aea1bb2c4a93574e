-- Why a script stops, and what is then printed.
use Rattle.std.proofs.Common.{◌≡◌, ◌∙◌, ℕ, Err, ap, inr, refl}
use Rattle.std.specs.Prelude.{string_bytes}
use Rattle.mx_plan.specs.Text.{Text}
use Rattle.mx_plan.specs.Fields.{Fields}
use Rattle.mx_cli.specs.Printing.{IsStopWith, Prints, Report, Sight}
use Rattle.mx_cli.specs.declared.stop.Stop.{Stop}
use Rattle.mx_cli.specs.declared.stop.Stop.TheVariants as stop
use Rattle.mx_cli.proofs.FrameLemmas.{line_prints, memory_prints}
use Rattle.mx_event_files.specs.Printed.{IsOnScript}
use Rattle.mx_event_files.specs.ScriptFiles.{IsRefusedScript}
use Rattle.mx_event_files.specs.Scripts.{HasLine, IsLineOf}
use Rattle.mx_scripts.specs.Failures.{IsRefused, script_line}
use Rattle.mx_scripts.specs.declared.line_failure.LineFailure.{LineFailure}
use Rattle.mx_scripts.specs.declared.line_failure.RefusedLine.{RefusedLine}

-- what is known of the line of a stop follows from what else is known of it
pub line_as : {P Q : Text → Type 0} (s : Stop) → ((line : Text) → P line → Q line) → HasLine P s → HasLine Q s
line_as (stop.Line line) f h = f (string_bytes line) h
line_as (stop.Fault fault) f h = absurd h
line_as stop.Writer f h = absurd h
line_as stop.Memory f h = tt

-- a stop with a line of which something is known
pub with_line : (P : Text → Type 0) (text : Text) (s : Stop) → ((line : Text) → line ≡ text → P line) → IsStopWith text s → HasLine P s
with_line P text (stop.Line line) f h = f (string_bytes line) h
with_line P text (stop.Fault fault) f h = absurd h
with_line P text stop.Writer f h = absurd h
with_line P text stop.Memory f h = tt

-- the line of a line that is refused
pub refused_stops : (k : ℕ) (why : LineFailure) (l : RefusedLine) (s : Stop) → IsRefused k why l → IsStopWith (script_line l.number l.fault (string_bytes l.message)) s → HasLine (IsLineOf k why) s
refused_stops k why l s is h =
    with_line (IsLineOf k why) (script_line l.number l.fault (string_bytes l.message)) s
    (λ line same. (l.fault, string_bytes l.message, is.1, same ∙ ap (λ (n : ℕ). script_line n l.fault (string_bytes l.message)) is.0)) h

-- the line of a script that is refused is printed
module _ (reports : Fields → Text → Report → Type 0) (p : Fields) (script : Text) (o : Sight) where
  pub script_stops : (s : Stop) → HasLine (IsRefusedScript p script) s → Prints (IsOnScript reports p script) o o (Err s)
  script_stops (stop.Line line) h = line_prints (IsOnScript reports p script) (string_bytes line) o (stop.Line line) (inr (string_bytes line, h, refl)) refl
  script_stops (stop.Fault fault) h = absurd h
  script_stops stop.Writer h = absurd h
  script_stops stop.Memory h = memory_prints (IsOnScript reports p script) o
