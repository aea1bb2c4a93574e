-- What the command `script` prints, and a command that gets a script in place of events.
use Rattle.std.specs.Prelude.{◌≡◌, ◌⊎◌}
use Rattle.mx_plan.specs.Text.{Text}
use Rattle.mx_plan.specs.Fields.{Fields}
use Rattle.mx_cli.specs.Printing.{IsWhole, Report, ends, has_line}
use Rattle.mx_event_files.specs.ScriptFiles.{IsRefusedScript, IsScriptFile}

-- a report of a command that gets the file of what the lines of a script do in the plan's cluster;
-- or the line that is printed of a script that is refused
abbrev pub IsOnScript : (Fields → Text → Report → Type 0) → Fields → Text → Report → Type 0
IsOnScript reports p script r =
    ((file : Text) × IsScriptFile p script file p.shape × reports p file r)
    ⊎ ((line : Text) × IsRefusedScript p script line × (r ≡ ends (has_line line)))

-- a report of `script`, which prints that file
abbrev pub IsScript : Fields → Text → Report → Type 0
IsScript = IsOnScript (λ p file. IsWhole file 0)
