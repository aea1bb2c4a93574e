-- What the frame makes of a command: what the two outputs get, and the exit status.
use Rattle.std.specs.Prelude.{◌≡◌, ◌⊎◌, ◌&&◌, ℕ, Bool, true, false, List, [], ◌∷◌, Option, Some, None, Err, IfSome, if◌then◌else◌, option_map, unwrap_or}
use Rattle.std.specs.Io.KnownBytes.{Appends, Keeps}
use Rattle.std.specs.List.{concat}
use Rattle.mx_plan.specs.Text.{Text}
use Rattle.mx_plan.specs.Fields.{Fields}
use Rattle.mx_plan.specs.declared.needs.Needs.{Needs}
use Rattle.mx_plan.specs.declared.needs.Needs.TheVariants.{All, Names}
use Rattle.mx_plan.specs.declared.faults.PlanFault.{PlanFault}
use Rattle.mx_plan.specs.declared.faults.PlanFault.TheVariants as plan_fault
use Rattle.mx_io.specs.Outputs.{Held}
use Rattle.mx_io.specs.Told.{Asks, Telling}
use Rattle.mx_cli.specs.FaultLines.{fault_line}
use Rattle.mx_cli.specs.Reading.{IsPlanFor, is_dash, ReadsBoth, plan_told, text_told}
use Rattle.mx_cli.specs.Reports.{MayReport, Seen}
use Rattle.mx_cli.specs.declared.faults.Fault.{Fault}
use Rattle.mx_cli.specs.declared.faults.Fault.TheVariants.{CannotRead, BadText, NotJson, NoParcel}
use Rattle.mx_cli.specs.declared.faults.Named.{Named}
use Rattle.mx_cli.specs.declared.faults.Named.TheVariants.{Plan, Events}
use Rattle.mx_cli.specs.Printing.{AppendsSome, Course, End, Report, comes_to, ends, has_fault, has_line, has_status, is_refused, is_short}
use Rattle.mx_cli.specs.declared.files.Files.{Files as Given}
use Rattle.mx_cli.specs.declared.stop.Stop.{Stop}
use Rattle.mx_cli.specs.declared.stop.Stop.TheVariants as stop

-- ---- files

-- the name of the plan; the keys that it has to have; the name of the text that comes with it, if
-- there is one; and whether the fault that a text is not JSON says which text that is
pub record Files : Type 0 where
  pub plan : Text
  pub needs : Needs
  pub text : Option Text
  pub names_texts : Bool

abbrev pub files_of : Given → Files
files_of f =
    record {
      plan = f.plan.now;
      needs = f.needs;
      text = option_map (λ t. t.now) f.text;
      names_texts = f.names_texts;
    }

-- the file of a plan, and of a text that comes with it, if one is named
abbrev pub files : Text → Option Text → Bool → Files
files plan text names_texts =
    record { plan = plan; needs = All; text = text; names_texts = names_texts }

-- the file of a plan, without a text that comes with it
abbrev pub alone : Text → Files
alone plan = files plan None false

-- the files of these names
abbrev pub both : Text × Text → Bool → Files
both names names_texts = files names.0 (Some names.1) names_texts

-- the files of a plan and a trace. Of the plan only the names count
abbrev pub of_trace : Text × Text → Files
of_trace names = record { plan = names.0; needs = Names; text = Some names.1; names_texts = true }

-- the names for the lines of faults
abbrev pub names_of : Files → Text × Text
names_of f = (f.plan, unwrap_or f.text f.plan)

abbrev pub plan_told_with : (Text → Option Telling) → Text → Option Text → Option Telling
plan_told_with told plan None = told plan
plan_told_with told plan (Some text) = plan_told told (plan, text)

abbrev pub text_told_with : (Text → Option Telling) → Text → Option Text → Option Telling
text_told_with told plan None = Some (Some [])
text_told_with told plan (Some text) = text_told told (plan, text)

-- what the source states about the plan, and (below) about the text that comes with it
abbrev pub told_plan : (Text → Option Telling) → Files → Option Telling
told_plan told f = plan_told_with told f.plan f.text

abbrev pub told_text : (Text → Option Telling) → Files → Option Telling
told_text told f = text_told_with told f.plan f.text

-- each name was read at most once, and the plan's first: once for both, if both are standard input
abbrev pub AsksEach : Bool → Text → Text → Option (List Text) → Option (List Text) → Type 0
AsksEach true plan text old new = Asks old new (plan ∷ [])
AsksEach false plan text old new = Asks old new (plan ∷ []) ⊎ Asks old new (plan ∷ text ∷ [])

abbrev pub AsksWith : Text → Option Text → Option (List Text) → Option (List Text) → Type 0
AsksWith plan None old new = Asks old new (plan ∷ [])
AsksWith plan (Some text) old new = AsksEach (is_dash plan && is_dash text) plan text old new

abbrev pub AsksFiles : Files → Option (List Text) → Option (List Text) → Type 0
AsksFiles f old new = AsksWith f.plan f.text old new

-- ---- faults that name a text

-- the fault of a text; if the text is not JSON, the fault says which text that is
abbrev pub text_named : Named → PlanFault → Fault
text_named part plan_fault.NotJson = NotJson part
text_named part fault = BadText fault

abbrev pub fault_named : Named → Fault → Fault
fault_named part (CannotRead name) = CannotRead name
fault_named part (BadText fault) = text_named part fault
fault_named part (NotJson name) = NotJson name
fault_named part (NoParcel k) = NoParcel k

abbrev pub fault_for : Bool → Named → Fault → Fault
fault_for names_texts part fault = if names_texts then fault_named part fault else fault

abbrev pub end_for : Bool → End → End
end_for names_texts (has_status status) = has_status status
end_for names_texts (has_fault fault) = has_fault (fault_for names_texts Events fault)
end_for names_texts (has_line line) = has_line line

abbrev pub report_for : Bool → Report → Report
report_for names_texts r = record { texts = r.texts; end = end_for names_texts r.end }

abbrev pub stop_for : Bool → Named → Stop → Stop
stop_for names_texts part (stop.Fault fault) = stop.Fault (fault_for names_texts part fault)
stop_for names_texts part (stop.Line line) = stop.Line line
stop_for names_texts part stop.Writer = stop.Writer
stop_for names_texts part stop.Memory = stop.Memory

-- ---- the reports of files

-- the files were not read, for this fault
abbrev pub IsUnreadReport : Needs → Bool → Option Telling → Option Telling → Report → Type 0
IsUnreadReport needs names_texts plan text r =
    (fault : Fault) × ReadsBoth needs plan text (Err (stop.Fault fault))
    × (r ≡ ends (has_fault (fault_for names_texts Plan fault)))

-- the files were read, and it is a report of the plan and the text in them
abbrev pub IsReadReport : (Fields → Text → Report → Type 0) → Needs → Bool → Option Telling
    → Option Telling → Report → Type 0
IsReadReport reports needs names_texts plan text r =
    (p : Fields) × (bytes : Text) × (told : Report) × IsPlanFor needs plan p
    × IfSome text (λ telling. telling ≡ Some bytes) × reports p bytes told
    × (r ≡ report_for names_texts told)

-- a report of what the source states about the plan and the text
abbrev pub IsReportOf : (Fields → Text → Report → Type 0) → Needs → Bool → Option Telling
    → Option Telling → Report → Type 0
IsReportOf reports needs names_texts plan text r =
    IsUnreadReport needs names_texts plan text r
    ⊎ IsReadReport reports needs names_texts plan text r

-- ---- the end

abbrev pub status_of : End → ℕ
status_of (has_status status) = status
status_of (has_fault fault) = 1
status_of (has_line line) = 1

-- what standard error gets, by the names of the plan and of the text
abbrev pub end_text : Text × Text → End → Text
end_text names (has_status status) = []
end_text names (has_fault fault) = fault_line names fault
end_text names (has_line line) = line

-- memory ran out: status 5
abbrev pub RunsOut : Seen → Seen → ℕ → Type 0
RunsOut old new status =
    (status ≡ 5) × MayReport old.err new.err × (new.refused ≡ old.refused)

-- standard output refused: status 1. An output that takes all bytes never refuses
abbrev pub Refuses : Bool → Seen → Seen → ℕ → Type 0
Refuses takes_out old new status =
    (status ≡ 1) × (takes_out ≡ false) × (new.refused ≡ true) × Keeps old.err new.err

-- standard error refused the line of the end: status 1
abbrev pub RefusesLine : Bool → Seen → Seen → ℕ → Type 0
RefusesLine takes_line old new status =
    (status ≡ 1) × (takes_line ≡ false) × Keeps old.err new.err

-- whether standard error takes the text of this end, which is nothing if there is a status
abbrev pub takes_end : Bool → End → Bool
takes_end takes_all (has_status status) = true
takes_end takes_all (has_fault fault) = takes_all
takes_end takes_all (has_line line) = takes_all

-- the text of the end was written; or memory ran out, or standard error refused
abbrev pub TellsEnd : Text × Text → Bool → Course → Held → Held → ℕ → Type 0
TellsEnd names takes_all (comes_to end) old new status =
    ((status ≡ status_of end) × Appends old new (end_text names end))
    ⊎ ((status ≡ 5) × MayReport old new)
    ⊎ ((status ≡ 1) × (takes_end takes_all end ≡ false) × Keeps old new)
TellsEnd names takes_all is_refused old new status = (status ≡ 1) × Keeps old new
TellsEnd names takes_all is_short old new status = (status ≡ 5) × MayReport old new

-- all that was printed was passed on, and the text of the end was written
pub record ClosesWell (names : Text × Text) (end : End) (old new : Seen)
    (status : ℕ) : Type 0 where
  pub status_is : status ≡ status_of end
  pub line : Appends old.err new.err (end_text names end)
  pub passed : new.kept_back ≡ false

-- how a run is closed, by how far it came
abbrev pub ClosesAs : Text × Text → Bool → Bool → Course → Seen → Seen → ℕ → Type 0
ClosesAs names takes_out takes_err (comes_to end) old new status =
    ClosesWell names end old new status ⊎ RunsOut old new status
    ⊎ Refuses takes_out old new status ⊎ RefusesLine (takes_end takes_err end) old new status
ClosesAs names takes_out takes_err is_refused old new status =
    (status ≡ 1) × Keeps old.err new.err × (new.refused ≡ old.refused)
ClosesAs names takes_out takes_err is_short old new status =
    RunsOut old new status ⊎ Refuses takes_out old new status

-- nothing more is printed
abbrev pub Closes : Text × Text → Bool → Bool → Course → Seen → Seen → ℕ → Type 0
Closes names takes_out takes_err course old new status =
    Keeps old.out new.out × ClosesAs names takes_out takes_err course old new status

-- the statuses of a command on a plan: all went well; a fault, or an output that refused; memory
-- ran out
abbrev pub IsRunStatus : ℕ → Type 0
IsRunStatus status = (status ≡ 0) ⊎ (status ≡ 1) ⊎ (status ≡ 5)

-- ---- the whole

-- memory ran out before there was a report, or standard output refused
abbrev pub FailsAtOnce : Bool → Seen → Seen → ℕ → Type 0
FailsAtOnce takes_out old new status =
    Keeps old.out new.out × (RunsOut old new status ⊎ Refuses takes_out old new status)

-- the report was printed whole, and passed on; the line of its fault, if it has one, was written
pub record PrintsWhole (names : Text × Text) (r : Report) (old new : Seen)
    (status : ℕ) : Type 0 where
  pub status_is : status ≡ status_of r.end
  pub lines : Appends old.out new.out (concat r.texts)
  pub line : Appends old.err new.err (end_text names r.end)
  pub passed : new.kept_back ≡ false

-- the first texts of the report were printed, perhaps none or all, and memory ran out, or standard
-- output refused; or all were, and standard error refused the line of the fault
abbrev pub PrintsSome : Bool → Bool → Report → Seen → Seen → ℕ → Type 0
PrintsSome takes_out takes_err r old new status =
    (AppendsSome old.out new.out r.texts
    × (RunsOut old new status ⊎ Refuses takes_out old new status))
    ⊎ (Appends old.out new.out (concat r.texts)
    × RefusesLine (takes_end takes_err r.end) old new status)

abbrev pub PrintsReport : Bool → Bool → Text × Text → Report → Seen → Seen → ℕ → Type 0
PrintsReport takes_out takes_err names r old new status =
    PrintsWhole names r old new status ⊎ PrintsSome takes_out takes_err r old new status

-- the promise of the frame, for every command: a report of the files was printed, or memory ran out
-- or an output refused. `takes_out` and `takes_err` say whether the outputs take all bytes
abbrev pub Runs : (Fields → Text → Report → Type 0) → (Text → Option Telling) → Files
    → Bool → Bool → Seen → Seen → ℕ → Type 0
Runs reports told files takes_out takes_err old new status =
    FailsAtOnce takes_out old new status
    ⊎ ((r : Report)
    × IsReportOf reports files.needs files.names_texts (told_plan told files)
    (told_text told files) r
    × PrintsReport takes_out takes_err (names_of files) r old new status)
