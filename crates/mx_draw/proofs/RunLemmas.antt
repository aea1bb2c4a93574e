-- The steps of a run, one after another: what they name, and where they lead.
use Rattle.std.proofs.Common.{◌≡◌, ◌∙◌, ◌<◌, ◌-◌, ◌%◌, min, ℕ, zero, suc, Bool, true, false, if◌then◌else◌, nat_eq, Option, Some, None, Result, Ok, Err, IfSome, ap, length, refl, subst, sym}
use Rattle.std.specs.Prelude.{OnOk}
use Rattle.mx_nodelaws.specs.Core.{Core}
use Rattle.mx_ricart.specs.Step.{ricart_core}
use Rattle.mx_maekawa.specs.Step.{maekawa_core}
use Rattle.mx_raymond.specs.Step.{raymond_core}
use Rattle.mx_network.specs.Step.{ClusterState, step_of}
use Rattle.mx_network.specs.declared.faults.StepFault.{StepFault}
use Rattle.mx_events.specs.declared.event.Event.{Event}
use Rattle.mx_events.specs.declared.event.Event.TheVariants.{Deliver}
use Rattle.mx_plan.specs.Fields.{Fields}
use Rattle.mx_plan.specs.declared.shape.Shape.{Shape}
use Rattle.mx_plan.specs.declared.shape.Shape.TheVariants.{Ricart, Maekawa, Raymond}
use Rattle.mx_events.specs.Arguments.{IsWithin}
use Rattle.mx_explorer.specs.Drawn.{after_words, drawn, word}
use Rattle.mx_explorer.specs.Place.{place_of}
use Rattle.mx_explorer.proofs.DrawnEvents.{event_is_within}
use Rattle.mx_driver.specs.Runs.{at_rest}
use Rattle.mx_cli.specs.declared.request.Conditions.{Conditions}
use Rattle.mx_event_files.specs.Played.{IsPlayed, StaysPlayed}
use Rattle.mx_event_files.proofs.PlayedLemmas.{played_at_rest, plays_step}
use Rattle.mx_draw.specs.Walk.{StepperState, at_first, looked}
use Rattle.mx_draw.specs.Runs.{after_placed, after_run, next_of, or_stay, ran}
use Rattle.mx_draw.specs.Drawn.{LeadsAs, drawn_events}
use Rattle.mx_cli.specs.declared.request.RandomRun.{RandomRun}
use Rattle.mx_draw.proofs.StepLemmas.{next_named}

-- ---- the event of a step

-- what holds of a drawn event, and of each delivery, holds of the event of a schedule's step
module _ (P : Event → Type 0) (sent : ℕ) (each : (k : ℕ) → P (Deliver (sent - 1 - k))) where
  delivered : (b : Bool) (e : Event) → P e → IfSome (if b then None else Some e) P
  delivered true e h = tt
  delivered false e h = h

  pub placed : (e : Event) → P e → IfSome (place_of e sent) P
  placed (Deliver k) h = delivered (nat_eq sent 0) (Deliver (sent - 1 - k % min sent 64)) (each (k % min sent 64))
  placed _ h = h

module _ {H S M : Type 0} (core : Core H S M) (nodes registers : ℕ) where
  -- the event of a step names nodes and registers that are there
  step_named : (conditions : Option Conditions) (g : ClusterState S M) (w : StepperState) → 0 < nodes → 0 < registers
      → IfSome (next_of core conditions g nodes registers w).event (IsWithin nodes registers)
  step_named None g w n r =
      placed (IsWithin nodes registers) (length g.sent) (λ k. (tt, tt)) (drawn nodes registers w.words)
      (event_is_within nodes registers (after_words 1 w.words) n r (word w.words % 16))
  step_named (Some conditions) g w n r = next_named nodes registers n r core conditions g (looked (length g.sent) w)

  -- ---- where they lead

  plays_or_stay : (g : ClusterState S M) (e : Event) (s : Result (ClusterState S M) StepFault) → step_of core g e ≡ s → IsWithin nodes registers e
      → StaysPlayed core nodes registers g (or_stay g s)
  plays_or_stay g e (Err f) is over = λ start played. played
  plays_or_stay g e (Ok new) is over = plays_step core nodes registers g new e is over

  plays_after : (g : ClusterState S M) (o : Option Event) → IfSome o (IsWithin nodes registers) → StaysPlayed core nodes registers g (after_placed core g o)
  plays_after g None over = λ start played. played
  plays_after g (Some e) over = plays_or_stay g e (step_of core g e) refl over

  plays_ran : (conditions : Option Conditions) (steps : ℕ) (w : StepperState) (g : ClusterState S M) → 0 < nodes → 0 < registers
      → StaysPlayed core nodes registers g (ran core conditions nodes registers steps w g)
  unfolding ran
  plays_ran conditions zero w g n r = λ start played. played
  plays_ran conditions (suc steps) w g n r = λ start played.
      let s = next_of core conditions g nodes registers w in
      plays_ran conditions steps s.after (after_placed core g s.event) n r start
      (plays_after g s.event (step_named conditions g w n r) start played)

  -- the same of a run that may have failed
  pub plays_if : {A E : Type 0} (conditions : Option Conditions) (steps : ℕ) (w : StepperState) (g new : ClusterState S M) (r : Result A E) → 0 < nodes → 0 < registers
      → OnOk r (ran core conditions nodes registers steps w g ≡ new) → OnOk r (StaysPlayed core nodes registers g new)
  plays_if conditions steps w g new (Ok done) some few is = subst (λ (x : ClusterState S M). StaysPlayed core nodes registers g x) is (plays_ran conditions steps w g some few)
  plays_if conditions steps w g new (Err fault) some few is = tt

  module _ (conditions : Option Conditions) where
    -- one more step
    pub ran_more : (rest : ℕ) (w w' : StepperState) (g g' total : ClusterState S M)
        → after_placed core g (next_of core conditions g nodes registers w).event ≡ g' → w' ≡ (next_of core conditions g nodes registers w).after
        → ran core conditions nodes registers (suc rest) w g ≡ total → ran core conditions nodes registers rest w' g' ≡ total
    unfolding ran
    ran_more rest w w' g g' total stepped goes before =
        ap (λ (x : StepperState). ran core conditions nodes registers rest x g') goes
        ∙ ap (λ (x : ClusterState S M). ran core conditions nodes registers rest (next_of core conditions g nodes registers w).after x) (sym stepped)
        ∙ before

    -- no step more
    pub ran_none : (w : StepperState) (g : ClusterState S M) → ran core conditions nodes registers 0 w g ≡ g
    unfolding ran
    ran_none w g = refl

-- what holds at all events holds where all went well
pub on_ok : {A E P : Type 0} (r : Result A E) → P → OnOk r P
on_ok (Ok done) p = p
on_ok (Err fault) p = tt

-- ---- from the cluster of a plan, at rest

module _ (p : Fields) (run : RandomRun) (n : 0 < length p.nodes) (r : 0 < length p.registers) where
  pub played_run : {H S M : Type 0} (core : Core H S M) (shape : H)
      → IsPlayed core (length p.nodes) (length p.registers) (at_rest core p shape) (after_run core p run (at_rest core p shape))
  played_run core shape =
      let start = at_rest core p shape in
      plays_ran core (length p.nodes) (length p.registers) run.conditions run.steps (at_first run.seed) start n r start
      (played_at_rest core (length p.nodes) (length p.registers) start refl)

  pub leads : (shape : Shape) → LeadsAs p run (drawn_events p run shape) shape
  leads (Ricart count) = (played_run ricart_core count).runs
  leads (Maekawa family) = (played_run maekawa_core family).runs
  leads (Raymond tree) = (played_run raymond_core tree).runs
