-- The events of a run from a seed, in the cluster of a plan; and what `draw` prints.
use Rattle.std.specs.Prelude.{ℕ, List, length}
use Rattle.mx_ricart.specs.Step.{ricart_core}
use Rattle.mx_maekawa.specs.Step.{maekawa_core}
use Rattle.mx_raymond.specs.Step.{raymond_core}
use Rattle.mx_network.specs.Step.{RunsTo}
use Rattle.mx_events.specs.declared.event.Event.{Event}
use Rattle.mx_plan.specs.Text.{Text}
use Rattle.mx_plan.specs.Fields.{Fields}
use Rattle.mx_plan.specs.declared.shape.Shape.{Shape}
use Rattle.mx_plan.specs.declared.shape.Shape.TheVariants.{Ricart, Maekawa, Raymond}
use Rattle.mx_driver.specs.Runs.{at_rest}
use Rattle.mx_cli.specs.Printing.{IsWhole, Report}
use Rattle.mx_format.specs.Files.{file_text, events_of}
use Rattle.mx_event_files.specs.Played.{IsEventFile}
use Rattle.mx_draw.specs.Runs.{after_run}
use Rattle.mx_cli.specs.declared.request.RandomRun.{RandomRun}

-- the events that happen in a run from the cluster of a plan, at rest
abbrev pub drawn_events : Fields → RandomRun → Shape → List Event
drawn_events p run (Ricart count) =
    events_of (after_run ricart_core p run (at_rest ricart_core p count)).trace
drawn_events p run (Maekawa family) =
    events_of (after_run maekawa_core p run (at_rest maekawa_core p family)).trace
drawn_events p run (Raymond tree) =
    events_of (after_run raymond_core p run (at_rest raymond_core p tree)).trace

-- the number of parcels that are sent in this run
abbrev pub parcels_in : Fields → RandomRun → Shape → ℕ
parcels_in p run (Ricart count) =
    length (after_run ricart_core p run (at_rest ricart_core p count)).sent
parcels_in p run (Maekawa family) =
    length (after_run maekawa_core p run (at_rest maekawa_core p family)).sent
parcels_in p run (Raymond tree) =
    length (after_run raymond_core p run (at_rest raymond_core p tree)).sent

-- the events `es` lead from the cluster of a plan, at rest, to the cluster after this run
abbrev pub LeadsAs : Fields → RandomRun → List Event → Shape → Type 0
LeadsAs p run es (Ricart count) =
    let start = at_rest ricart_core p count in
    RunsTo ricart_core start es (after_run ricart_core p run start)
LeadsAs p run es (Maekawa family) =
    let start = at_rest maekawa_core p family in
    RunsTo maekawa_core start es (after_run maekawa_core p run start)
LeadsAs p run es (Raymond tree) =
    let start = at_rest raymond_core p tree in
    RunsTo raymond_core start es (after_run raymond_core p run start)

-- the file of the events of this run
abbrev pub drawn_file : Fields → RandomRun → Text
drawn_file p run = file_text p (drawn_events p run p.shape)

-- a report of `draw`: the file of a run, whose events can happen in the plan's cluster
abbrev pub IsDraw : RandomRun → Fields → Text → Report → Type 0
IsDraw run p text r =
    IsEventFile p (drawn_file p run) p.shape × IsWhole (drawn_file p run) 0 r
