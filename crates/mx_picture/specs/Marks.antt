-- Which events a picture shows, and which one of a trace it marks.
use Rattle.std.specs.Prelude.{◌&&◌, ◌||◌, ◌++◌, ◌==◌, ℕ, Bool, true, Option, None, Some, codes, decimal, if◌then◌else◌, is_none, nat_le, string_bytes}
use Rattle.mx_plan.specs.Text.{Text}
use Rattle.mx_plan.specs.Fields.{Fields}
use Rattle.mx_events.specs.Events.{node_of}
use Rattle.mx_events.specs.declared.event.Event.{Event}
use Rattle.mx_explorer.specs.declared.verdict.Clause.{Clause}
use Rattle.mx_explorer.specs.declared.verdict.Verdict.{Verdict}
use Rattle.mx_explorer.specs.declared.verdict.Verdict.TheVariants.{Sound, Broken}
use Rattle.mx_explorer.specs.VerdictLines.{clause_word}
use Rattle.mx_judge.specs.Listed.{ReadTrace, place_of}
use Rattle.mx_judge.specs.Reasons.{reason_at}
use Rattle.mx_picture.specs.declared.marked.Marked.{Marked}
use Rattle.mx_picture.specs.declared.part.ShownPart.{ShownPart}

-- ---- events shown

abbrev pub shows_index : ShownPart → ℕ → Bool
shows_index part k = nat_le part.from k && nat_le k part.to

-- all nodes are shown, or only this one
abbrev pub shows_node : Option ℕ → ℕ → Bool
shows_node None node = true
shows_node (Some shown) node = shown == node

-- a delivery is of no node that an event names
abbrev pub shows_event : Option ℕ → Option ℕ → Bool
shows_event shown None = is_none shown
shows_event shown (Some node) = shows_node shown node

-- the k-th event is shown; it may be near, which is to send or deliver a parcel from or to a
-- shown node
abbrev pub is_shown : ShownPart → ℕ → Event → Bool → Bool
is_shown part k event is_near =
    shows_index part k && (is_near || shows_event part.node (node_of event))

-- ---- the event that is marked

-- the index of an event, and why it is marked
pub record EventMark : Type 0 where
  pub index : ℕ
  pub why : Text

abbrev pub mark_of : Marked → EventMark
mark_of marked = record { index = marked.index; why = string_bytes marked.why }

-- why the k-th event is marked, if it is
abbrev pub why_at : ℕ → EventMark → Option Text
why_at k mark = if mark.index == k then Some mark.why else None

-- which rule an event breaks, by its name, its place in the text of the trace, and why it breaks
-- the rule
abbrev pub why_of : Text → Text → ℕ → Text → Text
why_of clause word place reason =
    clause ++ codes ", " ++ word ++ codes " " ++ decimal place ++ codes ": " ++ reason

abbrev pub why_text : Clause → Text → ℕ → Text → Text
why_text clause = why_of (clause_word clause)

-- the mark of a trace with this verdict: the first event that breaks a rule
abbrev pub marked_by : Fields → Text → ReadTrace → Verdict → Option EventMark
marked_by p word t Sound = None
marked_by p word t (Broken k clause) =
    Some
    (record {
      index = k;
      why = why_text clause word (place_of t k) (reason_at p t.entries k clause);
    })
