-- The file of a script.
use Rattle.std.specs.Prelude.{◌≡◌, ◌⊎◌, ◌≤◌, ℕ, List, [], length, IsUtf8}
use Rattle.std.specs.Str.Lines.{lines}
use Rattle.mx_stamps.specs.declared.limits.TheConstants.{MAX_EVENTS}
use Rattle.mx_nodelaws.specs.Core.{Core}
use Rattle.mx_ricart.specs.Step.{ricart_core}
use Rattle.mx_maekawa.specs.Step.{maekawa_core}
use Rattle.mx_raymond.specs.Step.{raymond_core}
use Rattle.mx_network.specs.Step.{ClusterState}
use Rattle.mx_plan.specs.Text.{Text}
use Rattle.mx_plan.specs.Fields.{Fields}
use Rattle.mx_plan.specs.declared.shape.Shape.{Shape}
use Rattle.mx_plan.specs.declared.shape.Shape.TheVariants.{Ricart, Maekawa, Raymond}
use Rattle.mx_lines.specs.declared.errors.LineFault.TheVariants.{NotText}
use Rattle.mx_driver.specs.Runs.{at_rest}
use Rattle.mx_format.specs.Files.{file_text, events_of}
use Rattle.mx_event_files.specs.Scripts.{DoesAll, StopsBy}
use Rattle.mx_event_files.specs.Played.{IsFileOf}
use Rattle.mx_scripts.specs.Failures.{script_line}
use Rattle.mx_scripts.specs.States.{RunState, before_any}
use Rattle.mx_event_files.specs.declared.happening.Happening.{Happening}

-- the text is the file of what the lines of a script do, one after another: at most a million
-- events, which can happen in the cluster
pub record IsFileOfScript {H S M : Type 0} (core : Core H S M) (p : Fields)
    (start : ClusterState S M) (script text : Text) : Type 0 where
  pub happened : List Happening
  pub last : RunState S M
  pub does : DoesAll core p 0 (lines script) (before_any start) happened last
  pub is : text ≡ file_text p (events_of last.cluster.trace)
  pub few : length last.cluster.trace ≤ MAX_EVENTS
  pub file : IsFileOf core p start text

-- the text is the file of what the lines of a script do in the cluster of a plan, at rest
abbrev pub IsScriptFile : Fields → Text → Text → Shape → Type 0
IsScriptFile p script text (Ricart count) =
    IsFileOfScript ricart_core p (at_rest ricart_core p count) script text
IsScriptFile p script text (Maekawa family) =
    IsFileOfScript maekawa_core p (at_rest maekawa_core p family) script text
IsScriptFile p script text (Raymond tree) =
    IsFileOfScript raymond_core p (at_rest raymond_core p tree) script text

-- ---- why there is none

-- the text is printed of the first line of a script that is not done, in a cluster
pub record StopsFrom {H S M : Type 0} (core : Core H S M) (p : Fields) (start : ClusterState S M)
    (script line : Text) : Type 0 where
  pub stops : StopsBy core p (lines script) (before_any start) line

-- the text is printed of the first line of a script that is not done in the cluster of a plan, at
-- rest
abbrev pub StopsInPlan : Fields → Text → Text → Shape → Type 0
StopsInPlan p script line (Ricart count) =
    StopsFrom ricart_core p (at_rest ricart_core p count) script line
StopsInPlan p script line (Maekawa family) =
    StopsFrom maekawa_core p (at_rest maekawa_core p family) script line
StopsInPlan p script line (Raymond tree) =
    StopsFrom raymond_core p (at_rest raymond_core p tree) script line

-- the text is printed of a line that is not in UTF-8
abbrev pub IsNotTextLine : Text → Type 0
IsNotTextLine line = (k : ℕ) × (line ≡ script_line k NotText [])

-- the script is not in UTF-8, and the text says so
abbrev pub IsNotText : Text → Text → Type 0
IsNotText script line = ¬ (IsUtf8 script) × IsNotTextLine line

-- the text is printed of a script that is refused: it is not in UTF-8, or a line is not done
abbrev pub IsRefusedScript : Fields → Text → Text → Type 0
IsRefusedScript p script line = IsNotText script line ⊎ StopsInPlan p script line p.shape
