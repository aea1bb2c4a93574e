-- What is shown of a run: all lines or only the closing ones, of one node or of all, as text or as
-- JSON, with or without what nodes know, after each event and at the end. Without options, these are
-- the lines of a replay (Runs).
use Rattle.std.specs.Prelude.{◌≡◌, ◌||◌, ℕ, ◌+◌, Bool, true, false, List, [], ◌∷◌, ◌++◌, Option, Some, None, Result, Ok, Err, drop, if◌then◌else◌, length, nat_eq, option_map, slice_get}
use Rattle.std.specs.Option.{option_map_or}
use Rattle.mx_knowledge.specs.Facts.{Known}
use Rattle.mx_nodelaws.specs.Core.{Core}
use Rattle.mx_ricart.specs.Step.{ricart_core}
use Rattle.mx_ricart.specs.Knows.{known_of as ricart_known}
use Rattle.mx_maekawa.specs.Step.{maekawa_core}
use Rattle.mx_maekawa.specs.Knows.{known_of as maekawa_known}
use Rattle.mx_raymond.specs.Step.{raymond_core}
use Rattle.mx_raymond.specs.Knows.{known_of as raymond_known}
use Rattle.mx_member.specs.Member.{MemberState}
use Rattle.mx_member.specs.declared.parcel.Parcel.{Parcel}
use Rattle.mx_events.specs.Events.{node_of}
use Rattle.mx_events.specs.declared.event.Event.{Event}
use Rattle.mx_events.specs.declared.event.Event.TheVariants.{Deliver}
use Rattle.mx_network.specs.Step.{ClusterState, RunsTo, step_of}
use Rattle.mx_network.specs.declared.faults.StepFault.{StepFault}
use Rattle.mx_trace.specs.declared.outcome.Entry.{Entry}
use Rattle.mx_explorer.specs.declared.verdict.Verdict.TheVariants.{Sound}
use Rattle.mx_plan.specs.Text.{Text}
use Rattle.mx_plan.specs.Fields.{Fields}
use Rattle.mx_plan.specs.declared.shape.Shape.{Shape}
use Rattle.mx_plan.specs.declared.shape.Shape.TheVariants.{Ricart, Maekawa, Raymond}
use Rattle.mx_format.specs.EventTexts.{event_line}
use Rattle.mx_format.specs.FactTexts.{facts_line}
use Rattle.mx_format.specs.LetterTexts.{letter_text}
use Rattle.mx_format.specs.Lines.{each_text, texts_from}
use Rattle.mx_format.specs.NodeTexts.{member_json, member_line}
use Rattle.mx_format.specs.ParcelTexts.{parcel_json, parcel_line}
use Rattle.mx_format.specs.StuckTexts.{WaiterState, stuck_text}
use Rattle.mx_format.specs.Parts.{Parts, maekawa_parts, raymond_parts, ricart_parts}
use Rattle.mx_cli.specs.Printing.{Report}
use Rattle.mx_driver.specs.Runs.{Texts, at_rest, report_from}
use Rattle.mx_driver.specs.Sinks.{TextsBy, report_by}
use Rattle.mx_driver.specs.Standstill.{stuck_in}
use Rattle.mx_explorer.specs.VerdictLines.{verdict_text}
use Rattle.mx_format.specs.EventJson.{event_json}
use Rattle.mx_driver.specs.declared.view.View.{View}

-- node i is shown: no node was named, or this one was
abbrev pub shows : Option ℕ → ℕ → Bool
shows None i = true
shows (Some wanted) i = nat_eq wanted i

-- the line, if it is shown; otherwise nothing
abbrev pub where_shown : Bool → Text → Text
where_shown is_shown line = if is_shown then line else []

module _ {M : Type 0} where
  -- a parcel is shown: its sender or its addressee is
  abbrev pub shows_parcel : Option ℕ → ℕ × ℕ × Parcel M → Bool
  shows_parcel node parcel = shows node parcel.0 || shows node parcel.1

  abbrev pub addressee_of : List (ℕ × ℕ × Parcel M) → ℕ → Option ℕ
  addressee_of sent k = option_map (λ parcel. parcel.1) (slice_get sent k)

  -- the node of an event; of a delivery, the addressee of the parcel, if that was sent
  abbrev pub owner_of : List (ℕ × ℕ × Parcel M) → Event → Option ℕ
  owner_of sent (Deliver k) = addressee_of sent k
  owner_of sent event = node_of event

  -- an event is shown: no node was named, or that of the event was
  abbrev pub shows_event : Option ℕ → List (ℕ × ℕ × Parcel M) → Event → Bool
  shows_event None sent event = true
  shows_event (Some wanted) sent event = option_map_or (nat_eq wanted) (owner_of sent event) false

module _ (p : Fields) (view : View) where
  abbrev pub entry_text : ℕ → Entry → Text
  entry_text k entry =
      if view.is_json then event_json p k entry else event_line p k entry.event entry.outcome

  -- the line of the k-th event, if the event is shown
  abbrev pub shown_entry : {M : Type 0} → List (ℕ × ℕ × Parcel M) → ℕ → Entry → Text
  shown_entry sent k entry =
      where_shown (shows_event view.node sent entry.event) (entry_text k entry)

module _ {M : Type 0} (p : Fields) (view : View) (parts : M → Parts) where
  abbrev pub sent_text : ℕ → ℕ × ℕ × Parcel M → Text
  sent_text k parcel =
      if view.is_json then parcel_json parts p k parcel
      else parcel_line (letter_text parts) p k parcel

  -- the line of the k-th parcel, if the parcel is shown
  abbrev pub shown_parcel : ℕ → ℕ × ℕ × Parcel M → Text
  shown_parcel k parcel = where_shown (shows_parcel view.node parcel) (sent_text k parcel)

module _ {H S M : Type 0} (p : Fields) (view : View) (core : Core H S M) (knows : S → List Known)
  where
    -- the line of node i and, if the view has states, that of what the node knows. In JSON, one
    -- object has both
    abbrev pub member_text : ℕ → MemberState S → Text
    member_text i m =
        if view.is_json then member_json core knows p i m
        else (if view.has_state then member_line core p i m ++ facts_line p (knows m.core)
        else member_line core p i m)

    -- the lines of node i, if the node is shown
    abbrev pub shown_member : ℕ → MemberState S → Text
    shown_member i m = where_shown (shows view.node i) (member_text i m)

    -- the lines of node i of these, if there is one and it is shown
    abbrev pub shown_node : List (MemberState S) → ℕ → Text
    shown_node members i = option_map_or (shown_member i) (slice_get members i) []

    -- in the cluster after an event, the lines of the event's node, if the node is shown
    abbrev pub shown_owner : ClusterState S M → Entry → Text
    shown_owner g entry = option_map_or (shown_node g.members) (owner_of g.sent entry.event) []

    -- if the view has states, the line of a run that stands still, in which these nodes wait
    abbrev pub shown_waiters : List WaiterState → Text
    shown_waiters waiters = where_shown view.has_state (stuck_text view.is_json p waiters)

    -- the lines of the nodes that are shown, that of a run that stands still, in which these nodes
    -- wait, and the verdict, which is sound
    abbrev pub closing_with : List WaiterState → ClusterState S M → Text
    closing_with waiters g =
        texts_from shown_member 0 g.members
        ++ (shown_waiters waiters ++ verdict_text view.is_json Sound)

    abbrev pub shown_closing : ClusterState S M → Text
    shown_closing g = closing_with (stuck_in core knows g) g

module _ {H S M : Type 0} (core : Core H S M) (parts : M → Parts) (p : Fields) (view : View)
    (knows : S → List Known) where
  -- the line of the k-th event and those of the new parcels, by the clusters before and after it
  abbrev pub new_lines : ℕ → ClusterState S M → ClusterState S M → Text
  new_lines k old new =
      texts_from (shown_entry p view new.sent) k (drop (length old.trace) new.trace)
      ++ texts_from (shown_parcel p view parts) (length old.sent) (drop (length old.sent) new.sent)

  -- what is shown of the k-th event: these lines and, if the view has states, those of its node
  abbrev pub shown_text : ℕ → ClusterState S M → ClusterState S M → Text
  shown_text k old new =
      if view.has_state
      then new_lines k old new
      ++ each_text (shown_owner p view core knows new) (drop (length old.trace) new.trace)
      else new_lines k old new

  -- the same, but nothing if the view is quiet
  abbrev pub step_text : ℕ → ClusterState S M → ClusterState S M → Text
  step_text k old new = if view.is_quiet then [] else shown_text k old new

  -- what is shown of the k-th event, and then of the rest; nothing, if the event cannot happen
  abbrev pub shown_step : ℕ → ClusterState S M → Result (ClusterState S M) StepFault
      → (ClusterState S M → Text) → Text
  shown_step k old (Ok new) rest = shown_text k old new ++ rest new
  shown_step k old (Err fault) rest = []

  -- what is shown of these events from a state on. The first event has index k
  unfoldable pub shown_from : ℕ → ClusterState S M → List Event → Text
  shown_from k g [] = []
  shown_from k g (e ∷ es) =
      shown_step k g (step_of core g e) (λ new. shown_from (k + 1) new es)

  -- what is shown of each event, and the closing lines
  abbrev pub view_texts : Texts S M
  view_texts = record { event = step_text; closing = shown_closing p view core knows }

  -- the report of these events from a state on, the first with index k: their texts, and then the
  -- closing lines. At an event that cannot happen the report ends, with the fault of a replay
  abbrev pub view_from : ℕ → ClusterState S M → List Event → Report
  view_from = report_from core view_texts

  -- all these events can happen. The text has their lines, unless the view is quiet, and then the
  -- closing lines of the cluster after them
  abbrev pub ShowsRun : List Event → ClusterState S M → Text → Type 0
  ShowsRun es start text =
      (g : ClusterState S M) × RunsTo core start es g
      × (text ≡ (if view.is_quiet then [] else shown_from 0 start es)
      ++ shown_closing p view core knows g)

-- what is shown of a run of each algorithm
abbrev pub view_lines : Fields → View → TextsBy
view_lines p view = record {
  ricart = view_texts ricart_core ricart_parts p view ricart_known;
  maekawa = view_texts maekawa_core maekawa_parts p view maekawa_known;
  raymond = view_texts raymond_core raymond_parts p view raymond_known;
}

-- the report of these events in a plan's cluster, which starts at rest, by the plan's algorithm
abbrev pub view_by : Fields → View → Shape → List Event → Report
view_by p view = report_by (view_lines p view) p

-- the text shows the run of these events in that cluster
abbrev pub ShowsRunBy : Fields → View → List Event → Text → Shape → Type 0
ShowsRunBy p view es text (Ricart count) =
    ShowsRun ricart_core ricart_parts p view ricart_known es (at_rest ricart_core p count) text
ShowsRunBy p view es text (Maekawa family) =
    ShowsRun maekawa_core maekawa_parts p view maekawa_known es (at_rest maekawa_core p family) text
ShowsRunBy p view es text (Raymond tree) =
    ShowsRun raymond_core raymond_parts p view raymond_known es (at_rest raymond_core p tree) text
