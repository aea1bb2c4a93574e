-- Random runs: the next event, and the cluster after a number of steps.
use Rattle.std.specs.Prelude.{ℕ, zero, suc, Option, Some, None, Result, Ok, Err, length}
use Rattle.mx_nodelaws.specs.Core.{Core}
use Rattle.mx_events.specs.declared.event.Event.{Event}
use Rattle.mx_network.specs.Step.{ClusterState, step_of}
use Rattle.mx_network.specs.declared.faults.StepFault.{StepFault}
use Rattle.mx_plan.specs.Fields.{Fields}
use Rattle.mx_explorer.specs.Drawn.{after_drawn, drawn}
use Rattle.mx_explorer.specs.Place.{place_of}
use Rattle.mx_cli.specs.declared.request.Conditions.{Conditions}
use Rattle.mx_draw.specs.Walk.{Step, StepperState, at_first, looked, next_step, with_words}
use Rattle.mx_cli.specs.declared.request.RandomRun.{RandomRun}

-- the state after an event; an event that can't happen changes nothing
abbrev pub or_stay : {G : Type 0} → G → Result G StepFault → G
or_stay g (Ok new) = new
or_stay g (Err fault) = g

-- the step of a schedule for the event that was drawn: a delivery is of one of the newest 64
-- parcels, and there is no event if none was sent
abbrev pub schedule_step : Event → ℕ → StepperState → Step
schedule_step e sent w =
    record { event = place_of e sent; after = with_words (after_drawn e w.words) w }

module _ {H S M : Type 0} (core : Core H S M) where
  -- the cluster after an event; `None` changes nothing
  abbrev pub after_placed : ClusterState S M → Option Event → ClusterState S M
  after_placed g None = g
  after_placed g (Some e) = or_stay g (step_of core g e)

  -- the next step of a walk, after a look at the parcels sent
  abbrev pub walk_step : Conditions → ClusterState S M → ℕ → ℕ → StepperState → Step
  walk_step conditions g nodes registers w =
      next_step core conditions g nodes registers (looked (length g.sent) w)

  -- the next step of a run: of a schedule, or of a walk under some conditions
  abbrev pub next_of : Option Conditions → ClusterState S M → ℕ → ℕ → StepperState → Step
  next_of None g nodes registers w =
      schedule_step (drawn nodes registers w.words) (length g.sent) w
  next_of (Some conditions) g nodes registers w = walk_step conditions g nodes registers w

module _ {H S M : Type 0} (core : Core H S M) (conditions : Option Conditions)
    (nodes registers : ℕ) where
  -- the cluster after this many steps
  unfoldable pub ran : ℕ → StepperState → ClusterState S M → ClusterState S M
  ran zero w g = g
  ran (suc steps) w g =
      let s = next_of core conditions g nodes registers w in
      ran steps s.after (after_placed core g s.event)

-- the cluster after a run, over the nodes and registers of a plan
abbrev pub after_run : {H S M : Type 0} → Core H S M → Fields → RandomRun → ClusterState S M
    → ClusterState S M
after_run core p run =
    ran core run.conditions (length p.nodes) (length p.registers) run.steps (at_first run.seed)

-- the schedule of a seed, of a number of steps
abbrev pub schedule_of : ℕ → ℕ → RandomRun
schedule_of seed steps = record { seed = seed; steps = steps; conditions = None }
