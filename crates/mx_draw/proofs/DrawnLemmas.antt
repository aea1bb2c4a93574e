-- What is drawn is read back from its file.
use Rattle.std.proofs.Common.{◌≡◌, ◌∙◌, ℕ, zero, suc, ◌+◌, ◌-◌, ◌%◌, ◌^◌, ◌<◌, ◌≤◌, Bool, true, false, if◌then◌else◌, nat_lt, List, [], ◌∷◌, length, Option, Some, None, Result, Ok, Err, IfSome, arith, ap, subst, sym, refl, inl, inr}
use Rattle.std.proofs.Math.Nat.{div-le_self, mod-lt}
use Rattle.std.proofs.lemmas.List.{length-append}
use Rattle.std.proofs.lemmas.Nat.{or_lt}
use Rattle.rand_pcg.specs.Lcg.{Lcg}
use Rattle.mx_stamps.specs.Lists.{IsIn}
use Rattle.mx_stamps.proofs.Lists.{in_append}
use Rattle.mx_nodelaws.specs.Core.{Core}
use Rattle.mx_ricart.specs.Step.{ricart_core}
use Rattle.mx_maekawa.specs.Step.{maekawa_core}
use Rattle.mx_raymond.specs.Step.{raymond_core}
use Rattle.mx_network.specs.Step.{ClusterState, step_of}
use Rattle.mx_network.specs.declared.faults.StepFault.{StepFault}
use Rattle.mx_events.specs.declared.event.Event.{Event}
use Rattle.mx_plan.specs.Fields.{Fields, IsPlan}
use Rattle.mx_plan.specs.Events.{events_at}
use Rattle.mx_plan.specs.declared.shape.Shape.{Shape}
use Rattle.mx_plan.specs.declared.shape.Shape.TheVariants.{Ricart, Maekawa, Raymond}
use Rattle.mx_explorer.specs.Drawn.{drawn, event_by, word}
use Rattle.mx_explorer.specs.Drawn as drawing
use Rattle.mx_driver.specs.Runs.{at_rest}
use Rattle.mx_driver.proofs.RunLemmas.{grows}
use Rattle.mx_draw.specs.Walk.{StepperState, at_first}
use Rattle.mx_draw.specs.Runs.{after_placed, after_run, next_of, or_stay, ran, schedule_of}
use Rattle.mx_draw.specs.Drawn.{drawn_events, drawn_file, parcels_in}
use Rattle.mx_draw.proofs.RunLemmas.{placed, played_run}
use Rattle.mx_format.specs.Files.{events_of}
use Rattle.mx_event_files.specs.Played.{AreReadable, HasSmallNumber}
use Rattle.mx_event_files.proofs.PlayedLemmas.{noted}
use Rattle.mx_event_files.proofs.ReadLemmas.{read_back}

-- ---- the numbers that are drawn

word_small : (g : Lcg) → word g < 2 ^ 32
word_small g = or_lt 32 _ _ (omega (arith, div-le_self, mod-lt)) (mod-lt _ (omega arith))

module _ (nodes registers : ℕ) where
  either : (b : Bool) (x y : Event) → HasSmallNumber x → HasSmallNumber y → HasSmallNumber (if b then x else y)
  either true x y first second = first
  either false x y first second = second

  event_is_numbered : (k : ℕ) (g : Lcg) → HasSmallNumber (event_by k nodes registers g)
  event_is_numbered k g =
      let value : word (drawing.after_words 2 g) < 2 ^ 64 = omega (arith, word_small (drawing.after_words 2 g)) in
      let number : word g < 2 ^ 64 = omega (arith, word_small g) in
      let small : word (drawing.after_words 1 g) % 17 < 17 = mod-lt (word (drawing.after_words 1 g)) (omega arith) in
      let upto : word (drawing.after_words 1 g) % 17 < 2 ^ 64 = omega (arith, small) in
      either (nat_lt k 2) _ _ tt
      (either (nat_lt k 4) _ _ tt
      (either (nat_lt k 5) _ _ tt
      (either (nat_lt k 6) _ _ value
      (either (nat_lt k 8) _ _ tt
      (either (nat_lt k 9) _ _ tt
      (either (nat_lt k 10) _ _ tt
      (either (nat_lt k 11) _ _ tt
      (either (nat_lt k 14) _ _ number
      (either (nat_lt k 15) _ _ upto tt)))))))))

-- ---- what happens of them

module _ {H S M : Type 0} (core : Core H S M) where
  abbrev AreNumbered : List Event → Type 0
  AreNumbered es = (e : Event) → IsIn e es → HasSmallNumber e

  module _ (g : ClusterState S M) where
    stay_numbered : (e : Event) (w : Result (ClusterState S M) StepFault) → step_of core g e ≡ w → HasSmallNumber e → AreNumbered (events_of g.trace)
        → AreNumbered (events_of (or_stay g w).trace)
    stay_numbered e (Err fault) is h before = before
    stay_numbered e (Ok new) is h before = λ x in_new.
        elim (in_append x (events_of g.trace) (e ∷ []) (subst (λ (es : List Event). IsIn x es) (noted core g new e is) in_new)) [
          | inl old ↦ before x old
          | inr (inl same) ↦ subst (λ (y : Event). HasSmallNumber y) (sym same) h
          | inr (inr none) ↦ absurd none
        ]

    placed_numbered : (o : Option Event) → IfSome o HasSmallNumber → AreNumbered (events_of g.trace) → AreNumbered (events_of (after_placed core g o).trace)
    placed_numbered None h before = before
    placed_numbered (Some e) h before = stay_numbered e (step_of core g e) refl h before

    stay_more : (e : Event) (w : Result (ClusterState S M) StepFault) → step_of core g e ≡ w
        → (length g.sent ≤ length (or_stay g w).sent) × (length (events_of (or_stay g w).trace) ≤ suc (length (events_of g.trace)))
    stay_more e (Err fault) is = (omega arith, omega arith)
    stay_more e (Ok new) is =
        let one = ap (λ (es : List Event). length es) (noted core g new e is) ∙ length-append (events_of g.trace) (e ∷ []) in
        ((grows core g new e is).1, omega (arith, one))

    placed_more : (o : Option Event)
        → (length g.sent ≤ length (after_placed core g o).sent) × (length (events_of (after_placed core g o).trace) ≤ suc (length (events_of g.trace)))
    placed_more None = (omega arith, omega arith)
    placed_more (Some e) = stay_more e (step_of core g e) refl

  module _ (nodes registers : ℕ) where
    abbrev ended : ℕ → StepperState → ClusterState S M → ClusterState S M
    ended steps w g = ran core None nodes registers steps w g

    ran_grows : (steps : ℕ) (w : StepperState) (g : ClusterState S M)
        → (length g.sent ≤ length (ended steps w g).sent) × (length (events_of (ended steps w g).trace) ≤ length (events_of g.trace) + steps)
    unfolding ran
    ran_grows zero w g = (omega arith, omega arith)
    ran_grows (suc steps) w g =
        let s = next_of core None g nodes registers w in
        let one = placed_more g s.event in
        let more = ran_grows steps s.after (after_placed core g s.event) in
        (omega (arith, one.0, more.0), omega (arith, one.1, more.1))

    ran_numbered : (steps : ℕ) (w : StepperState) (g : ClusterState S M) → length (ended steps w g).sent ≤ 2 ^ 64 → AreNumbered (events_of g.trace)
        → AreNumbered (events_of (ended steps w g).trace)
    unfolding ran
    ran_numbered zero w g few before = before
    ran_numbered (suc steps) w g few before =
        let s = next_of core None g nodes registers w in
        let next = after_placed core g s.event in
        let sent : length g.sent ≤ 2 ^ 64 = omega (arith, few, (placed_more g s.event).0, (ran_grows steps s.after next).0) in
        let each : (k : ℕ) → length g.sent - 1 - k < 2 ^ 64 = λ k. omega (arith, sent) in
        ran_numbered steps s.after next few
        (placed_numbered g s.event
        (placed HasSmallNumber (length g.sent) each (drawn nodes registers w.words) (event_is_numbered nodes registers (word w.words % 16) (drawing.after_words 1 w.words)))
        before)

-- ---- by each algorithm

module _ (p : Fields) (n : 0 < length p.nodes) (r : 0 < length p.registers) (seed steps : ℕ) (few : steps ≤ 1000000) where
  readable_of : {H S M : Type 0} (core : Core H S M) (shape : H) → length (after_run core p (schedule_of seed steps) (at_rest core p shape)).sent ≤ 2 ^ 64
      → AreReadable p (events_of (after_run core p (schedule_of seed steps) (at_rest core p shape)).trace)
  readable_of core shape sent =
      let start = at_rest core p shape in
      record {
        over = (played_run p (schedule_of seed steps) n r core shape).over;
        numbered = ran_numbered core (length p.nodes) (length p.registers) steps (at_first seed) start sent (λ e h. absurd h);
        few = omega (arith, few, (ran_grows core (length p.nodes) (length p.registers) steps (at_first seed) start).1);
      }

  readable_in : (shape : Shape) → parcels_in p (schedule_of seed steps) shape ≤ 2 ^ 64 → AreReadable p (drawn_events p (schedule_of seed steps) shape)
  readable_in (Ricart count) sent = readable_of ricart_core count sent
  readable_in (Maekawa family) sent = readable_of maekawa_core family sent
  readable_in (Raymond tree) sent = readable_of raymond_core tree sent

-- the file of a schedule is read back
pub drawn_read : (p : Fields) → IsPlan p → (seed steps : ℕ) → steps ≤ 1000000 → parcels_in p (schedule_of seed steps) p.shape ≤ 2 ^ 64
    → events_at p (drawn_file p (schedule_of seed steps)) ≡ Ok (drawn_events p (schedule_of seed steps) p.shape)
drawn_read p valid seed steps few sent =
    read_back p valid (drawn_events p (schedule_of seed steps) p.shape)
    (readable_in p valid.nodes.some valid.registers.some seed steps few p.shape sent)
