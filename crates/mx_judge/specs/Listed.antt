-- A trace that is read from a text.
use Rattle.std.specs.Prelude.{ℕ, ◌+◌, ◌&&◌, List, [], ◌∷◌, ◌++◌, length, nat_le, slice_get, slice_range, unwrap_or, if◌then◌else◌}
use Rattle.mx_trace.specs.declared.outcome.Entry.{Entry}
use Rattle.mx_plan.specs.Text.{Text}
use Rattle.mx_judge.specs.Messages.{SentMessage}
use Rattle.mx_judge.specs.declared.trace.Trace.{Trace}

-- the entries of a trace, and the messages that they send; for each entry the number of its line
-- or, in an array, of its item, and how many messages stand before it; and the names of the messages
pub record ReadTrace : Type 0 where
  pub entries : List Entry
  pub places : List ℕ
  pub messages : List SentMessage
  pub starts : List ℕ
  pub names : List Text

abbrev pub nothing : ReadTrace
nothing = record { entries = []; places = []; messages = []; starts = []; names = [] }

abbrev pub listed : Trace → ReadTrace
listed trace = record {
  entries = trace.entries.items;
  places = trace.places.items;
  messages = trace.messages.items;
  starts = trace.starts.items;
  names = trace.names;
}

-- this trace, with the entry of the k-th line or item after it
abbrev pub with_one : ℕ → ReadTrace → Entry → ReadTrace
with_one k t entry = record {
  entries = t.entries ++ entry ∷ [];
  places = t.places ++ k ∷ [];
  messages = t.messages;
  starts = t.starts ++ length t.messages ∷ [];
  names = t.names;
}

-- this trace, whose newest entry sends this message too
abbrev pub with_message : ReadTrace → SentMessage → ReadTrace
with_message t message = record {
  entries = t.entries;
  places = t.places;
  messages = t.messages ++ message ∷ [];
  starts = t.starts;
  names = t.names ++ message.name ∷ [];
}

-- the number of the line or item of the k-th entry
abbrev pub place_of : ReadTrace → ℕ → ℕ
place_of t k = unwrap_or (slice_get t.places k) 0

-- how many messages stand before the k-th entry; all, if there is no such entry
abbrev pub start_of : ReadTrace → ℕ → ℕ
start_of t k = unwrap_or (slice_get t.starts k) (length t.messages)

-- the messages from the i-th up to the j-th; none, if there are no such two
abbrev pub part_of : ℕ → ℕ → List SentMessage → List SentMessage
part_of i j messages =
    if nat_le i j && nat_le j (length messages) then slice_range messages i j else []

-- the messages that the k-th entry sends: those before the next entry
abbrev pub sent_by : ReadTrace → ℕ → List SentMessage
sent_by t k = part_of (start_of t k) (start_of t (k + 1)) t.messages
