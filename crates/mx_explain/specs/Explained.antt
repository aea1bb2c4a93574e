-- What `explain` prints, and how it ends: as the check, the replay or the script that it explains.
use Rattle.std.specs.Prelude.{◌≡◌, ◌≢◌, ◌⊎◌, ℕ, Bool, true, false, [], ◌∷◌, Option, None, Some, unwrap_or}
use Rattle.mx_plan.specs.Text.{Text}
use Rattle.mx_plan.specs.Fields.{Fields}
use Rattle.mx_io.specs.Told.{Telling}
use Rattle.mx_cli.specs.Frames.{FailsAtOnce, Files, IsReportOf, PrintsReport, alone, both, told_plan, told_text}
use Rattle.mx_cli.specs.Printing.{Course, End, Report, comes_to, has_fault, has_line, has_status, is_refused, is_short}
use Rattle.mx_cli.specs.Reports.{Seen}
use Rattle.mx_cli.specs.Requests.{text_of}
use Rattle.mx_driver.specs.Commands.{IsCheck, IsReplay}
use Rattle.mx_event_files.specs.Printed.{IsScript}
use Rattle.mx_explain.specs.Reports.{AreShown, last_line, nothing_at_fault}
use Rattle.mx_explain.specs.declared.explanation.ExplainedFiles.{ExplainedFiles}

-- ---- what is explained

-- a report of these files
abbrev pub IsReportFor : (Fields → Text → Report → Type 0) → (Text → Option Telling) → Files
    → Report → Type 0
IsReportFor reports told files =
    IsReportOf reports files.needs files.names_texts (told_plan told files) (told_text told files)

-- a report of a script, or of events
abbrev pub IsTextReport : Bool → Fields → Text → Report → Type 0
IsTextReport true p text = IsScript p text
IsTextReport false p text = IsReplay p text

-- a report of what is explained: if a second file is named, of a script or a replay; else of a
-- check
abbrev pub IsExplained : (Text → Option Telling) → Text → Option Text → Bool → Report → Type 0
IsExplained told plan None is_script = IsReportFor (IsCheck false false) told (alone plan)
IsExplained told plan (Some second) is_script =
    IsReportFor (IsTextReport is_script) told (both (plan, second) is_script)

abbrev pub IsAsked : (Text → Option Telling) → ExplainedFiles → Report → Type 0
IsAsked told asked = IsExplained told asked.plan.now (text_of asked.second) asked.is_script

-- the names for the lines of faults
abbrev pub names_in : Text → Option Text → Text × Text
names_in plan second = (plan, unwrap_or second plan)

-- ---- explanations

-- whether a run came to its end, so that it can be explained
abbrev pub is_told : Course → Bool
is_told (comes_to end) = true
is_told is_refused = false
is_told is_short = false

-- the last line is `nothing is at fault` exactly if the run succeeded
abbrev pub LastTells : End → Text → Type 0
LastTells (has_status status) text = last_line text ≡ nothing_at_fault
LastTells (has_fault fault) text = last_line text ≢ nothing_at_fault
LastTells (has_line line) text = last_line text ≢ nothing_at_fault

-- this text, and the end of what it explains
abbrev pub told_as : Text → End → Report
told_as text end = record { texts = text ∷ []; end = end }

-- an explanation of a run that came so far: printable lines, with no control byte but line feeds,
-- and the end of the run
abbrev pub IsToldOf : Course → Report → Type 0
IsToldOf (comes_to end) r =
    (text : Text) × AreShown text × LastTells end text × (r ≡ told_as text end)
IsToldOf is_refused r = ⊥
IsToldOf is_short r = ⊥

-- an explanation of one of these reports
abbrev pub IsExplanation : (Report → Type 0) → Report → Type 0
IsExplanation IsReportText told = (r : Report) × IsReportText r × IsToldOf (comes_to r.end) told

-- the promise of `explain`: an explanation was printed, with the status and the line of the check,
-- the replay or the script; or memory ran out or an output refused
abbrev pub Explains : (Text → Option Telling) → Text → Option Text → Bool → Bool → Bool
    → Seen → Seen → ℕ → Type 0
Explains told plan second is_script takes_out takes_err old new status =
    FailsAtOnce takes_out old new status
    ⊎ ((r : Report) × IsExplanation (IsExplained told plan second is_script) r
    × PrintsReport takes_out takes_err (names_in plan second) r old new status)
