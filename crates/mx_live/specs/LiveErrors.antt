use Rattle.std.specs.Prelude.{◌≡◌, ◌≢◌, ◌⊎◌, Bool, true, false, ℕ, List, [], ◌++◌, codes, slice_get, Some, take}
use Rattle.std.specs.Io.KnownBytes.{Appends, Keeps}
use Rattle.mx_nodelaws.specs.Core.{Core}
use Rattle.mx_plan.specs.Fields.{Fields}
use Rattle.mx_plan.specs.Text.{Text, line_feed}
use Rattle.mx_plan.specs.declared.shape.Shape.{Shape}
use Rattle.mx_plan.specs.declared.shape.Shape.TheVariants as planned
use Rattle.mx_ricart.specs.Step.{ricart_core}
use Rattle.mx_maekawa.specs.Step.{maekawa_core}
use Rattle.mx_raymond.specs.Step.{raymond_core}
use Rattle.mx_cli.specs.declared.stop.Stop.{Stop}
use Rattle.mx_cli.specs.declared.stop.Stop.TheVariants as stop
use Rattle.mx_io.specs.Outputs.{Held}
use Rattle.mx_io.specs.declared.output.OutputFault.{OutputFault}
use Rattle.mx_io.specs.declared.output.OutputFault.TheVariants as output_fault
use Rattle.mx_jobs.specs.declared.thread_group.StartFault.{StartFault}
use Rattle.mx_jobs.specs.declared.thread_group.StartFault.TheVariants as start_fault
use Rattle.mx_cli.specs.FaultLines.{fault_line, memory_line}
use Rattle.mx_cli.specs.Reports.{MayReport}
use Rattle.mx_stations.specs.declared.worker.Worked.{Worked}
use Rattle.mx_stations.specs.declared.worker.Worked.TheVariants as worked
use Rattle.mx_stations.specs.Turns.{Station}
use Rattle.mx_live.specs.declared.live_error.LiveError.{LiveError}
use Rattle.mx_live.specs.declared.live_error.LiveError.TheVariants.{Plan, TooFewSections, TurnsSpent, GateShut, Writer, Memory, NoThread}
use Rattle.mx_cli.specs.declared.request.LiveOptions.{LiveOptions}
use Rattle.mx_live.specs.Workers.{AreDone, HaveRun}

-- the line that reports an error; `name` is the name of the plan's file
abbrev pub error_line : Text → LiveError → Text
error_line name (Plan fault) = fault_line (name, name) fault
error_line name TooFewSections = codes "mx: too few sections" ++ line_feed
error_line name TurnsSpent = codes "mx: turns spent" ++ line_feed
error_line name GateShut = codes "mx: gate shut" ++ line_feed
error_line name Writer = []
error_line name Memory = memory_line
error_line name NoThread = memory_line ++ codes "mx: a thread could not be started" ++ line_feed

abbrev pub error_status : LiveError → ℕ
error_status (Plan fault) = 1
error_status TooFewSections = 1
error_status TurnsSpent = 3
error_status GateShut = 3
error_status Writer = 1
error_status Memory = 5
error_status NoThread = 5

-- the line that reports the error was printed, or memory ran out, or the output refused the line
abbrev pub ReportsError : Bool → Text → LiveError → Held → Held → ℕ → Type 0
ReportsError takes_all name error old new status =
    ((status ≡ error_status error) × Appends old new (error_line name error))
    ⊎ ((status ≡ 5) × MayReport old new)
    ⊎ ((status ≡ error_status error) × (takes_all ≡ false) × Keeps old new)

-- the error of a worker that is not done, but ended in this way
abbrev pub IsWhy : Worked → LiveError → Type 0
IsWhy worked.Done error = ⊥
IsWhy (worked.NotYet n) error = error ≡ TurnsSpent
IsWhy worked.GateShut error = error ≡ GateShut

-- some worker is not done, and this is the error of the first such worker
pub record FirstNotDone {X : Type 0} (left : List (X × Worked)) (error : LiveError) : Type 0 where
  pub place : ℕ
  pub one : X × Worked
  pub there : slice_get left place ≡ Some one
  pub before : AreDone (take place left)
  pub why : IsWhy one.1 error

-- why the stations that workers returned are not gathered: the error of the first worker that is
-- not done; or, if all are done, that memory ran out
abbrev pub EndInVain : {X : Type 0} → List (X × Worked) → LiveError → Type 0
EndInVain left error = FirstNotDone left error ⊎ (AreDone left × (error ≡ Memory))

-- Workers may leave stations of this plan so that some worker is not done, and this is the error of
-- the first such worker, in order of the nodes. It does not say that threads left them.
pub record RunsInVain {H S M : Type 0} (core : Core H S M) (shape : H) (p : Fields)
    (orders : LiveOptions) (error : LiveError) : Type 0 where
  pub left : List (Station core × Worked)
  pub run : HaveRun core shape p orders left
  pub first : FirstNotDone left error

-- the same, with the algorithm of this shape
abbrev pub InVainBy : Shape → Fields → LiveOptions → LiveError → Type 0
InVainBy (planned.Ricart count) p orders error = RunsInVain ricart_core count p orders error
InVainBy (planned.Maekawa family) p orders error = RunsInVain maekawa_core family p orders error
InVainBy (planned.Raymond tree) p orders error = RunsInVain raymond_core tree p orders error

-- the same, with the plan's shape
abbrev pub InVain : Fields → LiveOptions → LiveError → Type 0
InVain p orders error = InVainBy p.shape p orders error

-- memory ran out, or a thread could not be started
abbrev pub IsShort : LiveError → Type 0
IsShort error = (error ≡ Memory) ⊎ (error ≡ NoThread)

-- why a run of this plan has no journal: a worker is not done, memory ran out, or a thread could not
-- be started
abbrev pub HasNone : Fields → LiveOptions → LiveError → Type 0
HasNone p orders error = InVain p orders error ⊎ IsShort error

-- the error of an output that failed: it refused, which an output that takes all never does, or
-- memory ran out
abbrev pub Fails : Bool → LiveError → Type 0
Fails takes error = ((error ≡ Writer) × (takes ≢ true)) ⊎ (error ≡ Memory)

-- the error of a live run whose plan was not read: its fault, or that memory ran out
abbrev pub unread_error : Stop → LiveError
unread_error (stop.Fault fault) = Plan fault
unread_error (stop.Line line) = Memory
unread_error stop.Writer = Memory
unread_error stop.Memory = Memory

abbrev pub error_of_put : OutputFault → LiveError
error_of_put output_fault.Refused = Writer
error_of_put output_fault.Memory = Memory

abbrev pub error_of_start : StartFault → LiveError
error_of_start start_fault.Memory = Memory
error_of_start start_fault.NoThread = NoThread
