-- The report of the events in a text.
use Rattle.std.specs.Prelude.{ℕ, List, Result, Ok, Err}
use Rattle.mx_events.specs.declared.event.Event.{Event}
use Rattle.mx_plan.specs.Fields.{Fields}
use Rattle.mx_plan.specs.Events.{events_at}
use Rattle.mx_plan.specs.declared.faults.PlanFault.{PlanFault}
use Rattle.mx_plan.specs.declared.shape.Shape.{Shape}
use Rattle.mx_cli.specs.Printing.{Report, ends, has_fault}
use Rattle.mx_cli.specs.declared.faults.Fault.TheVariants.{BadText}
use Rattle.mx_driver.specs.Sinks.{replay_lines, report_by}

-- the report of a replay of these events in the cluster of a plan, at rest
abbrev pub run_by : Fields → Shape → List Event → Report
run_by p = report_by (replay_lines p) p

-- the report of what was read; or that of the fault, if it was not read
abbrev pub where_read : {T : Type 0} → Result T PlanFault → (T → Report) → Report
where_read (Ok t) go_on = go_on t
where_read (Err fault) go_on = ends (has_fault (BadText fault))

-- the report of a plan and of the bytes of its events
abbrev pub report_of_events : List ℕ → Fields → Report
report_of_events bytes p = where_read (events_at p bytes) (run_by p p.shape)
