-- Events that happened, one after another.
use Rattle.std.proofs.Common.{◌≡◌, ◌∙◌, ◌⊎◌, ℕ, List, [], ◌∷◌, ◌++◌, Result, Ok, Err, length, ap, subst, sym, refl, inl, inr}
use Rattle.std.specs.Prelude.{IfOk}
use Rattle.std.proofs.lemmas.List.{map-append}
use Rattle.mx_stamps.specs.Lists.{IsIn}
use Rattle.mx_stamps.proofs.Lists.{in_append}
use Rattle.mx_nodelaws.specs.Core.{Core}
use Rattle.mx_network.specs.Step.{ClusterState, RunsTo, step_of}
use Rattle.mx_network.proofs.Happening.{noted as in_trace}
use Rattle.mx_events.specs.declared.event.Event.{Event}
use Rattle.mx_trace.specs.declared.outcome.Entry.{Entry}
use Rattle.mx_plan.specs.Text.{Text}
use Rattle.mx_plan.specs.Fields.{Fields}
use Rattle.mx_events.specs.Arguments.{IsWithin, AreEventsWithin}
use Rattle.mx_format.specs.Files.{file_text, events_of}
use Rattle.mx_event_files.specs.Played.{IsFileOf, IsPlayed, StaysPlayed}

-- the last of a list, or one before
one_more : (nodes registers : ℕ) (e x : Event) (es : List Event) → AreEventsWithin nodes registers es → IsWithin nodes registers e
    → IsIn x es ⊎ IsIn x (e ∷ []) → IsWithin nodes registers x
one_more nodes registers e x es over last (inl h) = over x h
one_more nodes registers e x es over last (inr (inl is)) = subst (λ (y : Event). IsWithin nodes registers y) (sym is) last
one_more nodes registers e x es over last (inr (inr h)) = absurd h

module _ {H S M : Type 0} (core : Core H S M) where
  -- an event joins the trace
  pub noted : (g new : ClusterState S M) (e : Event) → step_of core g e ≡ Ok new → events_of new.trace ≡ events_of g.trace ++ e ∷ []
  noted g new e step =
      let entry = in_trace core g e new step in
      ap (λ (trace : List Entry). events_of trace) entry.1 ∙ map-append (λ (x : Entry). x.event) g.trace (record { event = e; outcome = entry.0 } ∷ [])

  -- a run, and one event more
  run_on : (start mid new : ClusterState S M) (es : List Event) (e : Event) → RunsTo core start es mid → step_of core mid e ≡ Ok new → RunsTo core start (es ++ e ∷ []) new
  run_on start mid new [] e is step = (new, subst (λ (g : ClusterState S M). step_of core g e ≡ Ok new) is step, refl)
  run_on start mid new (x ∷ xs) e run step = (run.0, run.1, run_on run.0 mid new xs e run.2 step)

  -- a run to the events of a trace, and one event more
  pub runs_step : (start g new : ClusterState S M) (e : Event) → RunsTo core start (events_of g.trace) g → step_of core g e ≡ Ok new → RunsTo core start (events_of new.trace) new
  runs_step start g new e run step =
      subst (λ (es : List Event). RunsTo core start es new) (sym (noted g new e step)) (run_on start g new (events_of g.trace) e run step)

  -- nothing was played at rest
  pub played_at_rest : (nodes registers : ℕ) (g : ClusterState S M) → g.trace ≡ [] → IsPlayed core nodes registers g g
  played_at_rest nodes registers g empty = record {
    runs = subst (λ (t : List Entry). RunsTo core g (events_of t) g) (sym empty) refl;
    over = λ e h. absurd (subst (λ (t : List Entry). IsIn e (events_of t)) empty h);
  }

  -- an event more
  pub plays_step : (nodes registers : ℕ) (g new : ClusterState S M) (e : Event) → step_of core g e ≡ Ok new → IsWithin nodes registers e → StaysPlayed core nodes registers g new
  plays_step nodes registers g new e step over = λ start played. record {
    runs = runs_step start g new e played.runs step;
    over = λ x h. one_more nodes registers e x (events_of g.trace) played.over over
        (in_append x (events_of g.trace) (e ∷ []) (subst (λ (es : List Event). IsIn x es) (noted g new e step) h));
  }

  pub file_of_played : (p : Fields) (start g : ClusterState S M) (trace : List Entry) (text : Text) → start.trace ≡ [] → StaysPlayed core (length p.nodes) (length p.registers) start g
      → trace ≡ g.trace → text ≡ file_text p (events_of trace) → IsFileOf core p start text
  file_of_played p start g trace text empty plays same is =
      let played = plays start (played_at_rest (length p.nodes) (length p.registers) start empty) in
      record { events = events_of g.trace; is = is ∙ ap (λ (t : List Entry). file_text p (events_of t)) same; over = played.over; last = g; runs = played.runs }

  -- the same of a text that may be missing
  pub file_if_played : {A E : Type 0} (bytes : A → Text) (p : Fields) (start g : ClusterState S M) (trace : List Entry) (r : Result A E) → start.trace ≡ []
      → StaysPlayed core (length p.nodes) (length p.registers) start g → trace ≡ g.trace → IfOk r (λ text. bytes text ≡ file_text p (events_of trace))
      → IfOk r (λ text. IsFileOf core p start (bytes text))
  file_if_played bytes p start g trace (Ok text) empty plays same is = file_of_played p start g trace (bytes text) empty plays same is
  file_if_played bytes p start g trace (Err e) empty plays same is = tt

-- the file of what the trace has, where there is one
pub file_of_trace : {A E : Type 0} (bytes : A → Text) (p : Fields) (trace others : List Entry) (r : Result A E) → trace ≡ others
    → IfOk r (λ text. bytes text ≡ file_text p (events_of trace)) → IfOk r (λ text. bytes text ≡ file_text p (events_of others))
file_of_trace bytes p trace others r same is = subst (λ (t : List Entry). IfOk r (λ text. bytes text ≡ file_text p (events_of t))) same is
