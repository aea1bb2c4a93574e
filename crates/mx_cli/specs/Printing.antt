-- What a command prints, and how it ends.
use Rattle.std.specs.Prelude.{◌≡◌, ◌⊎◌, ℕ, Bool, true, false, List, [], ◌∷◌, None, ⊤, Result, Ok, Err, string_bytes, take}
use Rattle.std.specs.Io.KnownBytes.{Appends, Keeps}
use Rattle.std.specs.List.{concat}
use Rattle.mx_plan.specs.Text.{Text}
use Rattle.mx_plan.specs.declared.faults.PlanFault.{PlanFault}
use Rattle.mx_plan.specs.declared.faults.PlanFault.TheVariants as plan_fault
use Rattle.mx_io.specs.Outputs.{Held}
use Rattle.mx_io.specs.declared.output.Output.{Ghosts as OutputOf}
use Rattle.mx_io.specs.declared.output.OutputFault.{OutputFault}
use Rattle.mx_io.specs.declared.output.OutputFault.TheVariants as output_fault
use Rattle.mx_cli.specs.declared.faults.Fault.{Fault}
use Rattle.mx_cli.specs.declared.faults.Fault.TheVariants.{BadText}
use Rattle.mx_cli.specs.declared.stop.Stop.{Stop}
use Rattle.mx_cli.specs.declared.stop.Stop.TheVariants as stop

-- ---- reports

-- how a report ends: with a status of the command's own; with a fault of the plan or of the text
-- that comes with it; or with the line of another fault
pub data End : Type 0 where
  has_status : ℕ → End
  has_fault : Fault → End
  has_line : Text → End

-- the texts that are printed, in order, and the end
pub record Report : Type 0 where
  pub texts : List Text
  pub end : End

-- one text, and a status
abbrev pub whole : Text → ℕ → Report
whole text status = record { texts = text ∷ []; end = has_status status }

-- no text
abbrev pub ends : End → Report
ends end = record { texts = []; end = end }

-- this report, and (below) that of one text and a status
abbrev pub IsReport : Report → Report → Type 0
IsReport report r = r ≡ report

abbrev pub IsWhole : Text → ℕ → Report → Type 0
IsWhole text status = IsReport (whole text status)

-- ---- how far a run comes

-- a run comes to the end of its report; or an output refuses; or memory runs out
pub data Course : Type 0 where
  comes_to : End → Course
  is_refused : Course
  is_short : Course

abbrev pub course_of : Result ℕ Stop → Course
course_of (Ok status) = comes_to (has_status status)
course_of (Err (stop.Fault fault)) = comes_to (has_fault fault)
course_of (Err (stop.Line line)) = comes_to (has_line (string_bytes line))
course_of (Err stop.Writer) = is_refused
course_of (Err stop.Memory) = is_short

-- whether an output has refused something, after a run
abbrev pub refused_on : Course → Bool → Bool
refused_on (comes_to end) before = before
refused_on is_refused before = true
refused_on is_short before = before

-- what is seen of an output: what it holds, whether it has refused something, and whether it takes
-- all bytes
pub record Sight : Type 0 where
  pub held : Held
  pub refused : Bool
  pub takes_all : Bool

abbrev pub sight : {A : Type 0} → OutputOf A → A → Sight
sight o out =
    record { held = o.written out; refused = o.has_refused out; takes_all = o.takes_all out }

-- the same of an output that takes all texts, and keeps nothing
abbrev pub null_output : Sight
null_output = record { held = None; refused = false; takes_all = true }

-- the first n of these texts, for some n, were appended, each whole
abbrev pub AppendsSome : Held → Held → List Text → Type 0
AppendsSome old new texts = (n : ℕ) × Appends old new (concat (take n texts))

-- the texts of a report were printed, all or the first of them, each whole
abbrev pub Shows : Bool → Report → Held → Held → Course → Type 0
Shows takes_all r old new (comes_to end) = (r.end ≡ end) × Appends old new (concat r.texts)
Shows takes_all r old new is_refused = (takes_all ≡ false) × AppendsSome old new r.texts
Shows takes_all r old new is_short = AppendsSome old new r.texts

-- a run ended before there was a report
abbrev pub EndsEarly : Bool → Course → Type 0
EndsEarly takes_all (comes_to end) = ⊥
EndsEarly takes_all is_refused = takes_all ≡ false
EndsEarly takes_all is_short = ⊤

abbrev pub ShowsOne : (Report → Type 0) → Bool → Held → Held → Course → Type 0
ShowsOne IsReport takes_all old new course =
    (EndsEarly takes_all course × Keeps old new)
    ⊎ ((r : Report) × IsReport r × Shows takes_all r old new course)

-- the contract of every command: a report of these was printed, and the run ended as the report
-- does; or the output refused or memory ran out, and the first texts of the report were printed,
-- perhaps none or all, each whole; or nothing was printed, for one of these two reasons. An output
-- that takes all bytes never refuses
pub record Prints (IsReport : Report → Type 0) (old new : Sight)
    (result : Result ℕ Stop) : Type 0 where
  pub shows : ShowsOne IsReport old.takes_all old.held new.held (course_of result)
  pub refused : new.refused ≡ refused_on (course_of result) old.refused
  pub stays : new.takes_all ≡ old.takes_all

-- ---- reasons to stop

-- the reason has this line, or memory ran out
abbrev pub IsStopWith : Text → Stop → Type 0
IsStopWith text (stop.Line line) = string_bytes line ≡ text
IsStopWith text (stop.Fault fault) = ⊥
IsStopWith text stop.Writer = ⊥
IsStopWith text stop.Memory = ⊤

abbrev pub stop_of : OutputFault → Stop
stop_of output_fault.Refused = stop.Writer
stop_of output_fault.Memory = stop.Memory

abbrev pub stop_at : PlanFault → Stop
stop_at plan_fault.Memory = stop.Memory
stop_at fault = stop.Fault (BadText fault)
