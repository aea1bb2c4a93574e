-- What is printed of a run of events, for any algorithm.
use Rattle.std.specs.Prelude.{ℕ, ◌≡◌, ◌⊎◌, ◌+◌, List, [], ◌∷◌, ◌++◌, Result, Ok, Err, length, drop}
use Rattle.mx_stamps.specs.Lists.{each_below}
use Rattle.mx_nodelaws.specs.Core.{Core}
use Rattle.mx_member.specs.Steps.{start_of}
use Rattle.mx_network.specs.Step.{ClusterState, step_of}
use Rattle.mx_events.specs.declared.event.Event.{Event}
use Rattle.mx_network.specs.declared.faults.StepFault.{StepFault}
use Rattle.mx_network.specs.declared.faults.StepFault.TheVariants as step_fault
use Rattle.mx_trace.specs.declared.outcome.Entry.{Entry}
use Rattle.mx_plan.specs.Text.{Text}
use Rattle.mx_plan.specs.Fields.{Fields}
use Rattle.mx_cli.specs.declared.faults.Fault.TheVariants.{NoParcel}
use Rattle.mx_cli.specs.Printing.{Report, ends, has_fault, whole}
use Rattle.mx_cli.specs.declared.stop.Stop.{Stop}
use Rattle.mx_cli.specs.declared.stop.Stop.TheVariants as stop
use Rattle.mx_format.specs.EventTexts.{event_line}
use Rattle.mx_format.specs.Lines.{texts_from}
use Rattle.mx_format.specs.ParcelTexts.{parcel_lines}
use Rattle.mx_explorer.specs.declared.verdict.Verdict.TheVariants.{Sound}
use Rattle.mx_format.specs.NodeTexts.{node_lines}
use Rattle.mx_explorer.specs.VerdictLines.{verdict_line}

-- these texts, and then those of a report
abbrev pub after_texts : List Text → Report → Report
after_texts texts r = record { texts = texts ++ r.texts; end = r.end }

-- event k did not happen: it delivers a parcel that was not sent, or memory ran out
abbrev pub StopsAt : {G : Type 0} → ℕ → Result G StepFault → Stop → Type 0
StopsAt k wanted end =
    (end ≡ stop.Memory)
    ⊎ ((end ≡ stop.Fault (NoParcel k)) × (wanted ≡ Err step_fault.NoParcel))

-- the lines of these entries of a trace, numbered from k on
abbrev pub event_lines : Fields → ℕ → List Entry → Text
event_lines p = texts_from (λ k e. event_line p k e.event e.outcome)

-- the cluster of a plan, at rest
abbrev pub at_rest : {H S M : Type 0} → Core H S M → Fields → H → ClusterState S M
at_rest core p shape = record {
  members = each_below (λ i. start_of core shape i p.origin p.sections (length p.registers))
      (core.count shape);
  sent = [];
  trace = [];
}

pub record Texts (S M : Type 0) : Type 0 where
  -- of an event, by its index and the clusters before and after it
  pub event : ℕ → ClusterState S M → ClusterState S M → Text
  -- of the last cluster, at the end
  pub closing : ClusterState S M → Text

-- nothing is printed
abbrev pub silent : {S M : Type 0} → Texts S M
silent = record { event = λ _ _ _. []; closing = λ _. [] }

module _ {S M : Type 0} (texts : Texts S M) where
  -- the text of event k, and then the rest; or the fault that event k delivers a parcel that was
  -- not sent. An event has no other fault, since events that are read name nodes of the plan
  abbrev pub stepped : ℕ → ClusterState S M → Result (ClusterState S M) StepFault
      → (ClusterState S M → Report) → Report
  stepped k old (Ok new) rest = after_texts (texts.event k old new ∷ []) (rest new)
  stepped k old (Err fault) rest = ends (has_fault (NoParcel k))

module _ {H S M : Type 0} (core : Core H S M) (texts : Texts S M) where
  -- the texts of these events, numbered from k on, from this cluster on, and then the closing text
  -- and status 0
  unfoldable pub report_from : ℕ → ClusterState S M → List Event → Report
  report_from k g [] = whole (texts.closing g) 0
  report_from k g (e ∷ es) =
      stepped texts k g (step_of core g e) (λ new. report_from (k + 1) new es)

-- ---- the lines of a replay

module _ {H S M : Type 0} (core : Core H S M) (letter_text : Fields → M → Text) (p : Fields) where
  -- the lines of the new entries of the trace, and then those of the new parcels
  abbrev pub text_of : ℕ → ClusterState S M → ClusterState S M → Text
  text_of k old new =
      event_lines p k (drop (length old.trace) new.trace)
      ++ parcel_lines letter_text p (length old.sent) (drop (length old.sent) new.sent)

  -- a line for each node, and the verdict, which is sound for the trace of every cluster
  abbrev pub closing_text : ClusterState S M → Text
  closing_text g = node_lines core p g.members ++ verdict_line Sound

  abbrev pub lines : Texts S M
  lines = record { event = text_of; closing = closing_text }
