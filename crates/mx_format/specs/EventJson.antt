-- Events and their outcomes as JSON.
use Rattle.std.specs.Prelude.{ℕ, [], ◌++◌, Option, Some, None, codes, length}
use Rattle.mx_events.specs.Events.{kind_of, node_of}
use Rattle.mx_events.specs.Words.{word_of}
use Rattle.mx_events.specs.declared.event.Event.{Event}
use Rattle.mx_events.specs.declared.event.Event.TheVariants.{Read, Write, Settle, Want, Deliver}
use Rattle.mx_trace.specs.Causes.{cause_number, cause_words}
use Rattle.mx_trace.specs.declared.cause.Cause.{Cause}
use Rattle.mx_trace.specs.declared.outcome.Entry.{Entry}
use Rattle.mx_trace.specs.declared.outcome.Outcome.{Outcome}
use Rattle.mx_trace.specs.declared.outcome.Outcome.TheVariants.{Asked, Entered, Value, Written, Left, Cancelled, Sent, Settled, Delivered, Woken, Refused}
use Rattle.mx_plan.specs.Text.{Text}
use Rattle.mx_plan.specs.Fields.{Fields}
use Rattle.mx_format.specs.Members.{node_member, number_member, number_start, register_member, word_member}

-- the member `node` of an event; nothing, if the event has no node
abbrev pub owner_json : Fields → Option ℕ → Text
owner_json p None = []
owner_json p (Some node) = node_member p (codes "node") node

-- the members of an event that follow its word and its node
abbrev pub rest_json : Fields → Event → Text
rest_json p (Read node register) = register_member p register
rest_json p (Write node register value) =
    register_member p register ++ number_member (codes "value") value
rest_json p (Settle node upto) = number_member (codes "upto") upto
rest_json p (Want node other) = node_member p (codes "from") other
rest_json p (Deliver k) = number_member (codes "parcel") k
rest_json p _ = []

abbrev pub act_json : Fields → Event → Text
act_json p event =
    word_member (codes "act") (word_of (kind_of event)) ++ owner_json p (node_of event)
    ++ rest_json p event

abbrev pub bare_json : Text → Text
bare_json outcome = word_member (codes "outcome") outcome

abbrev pub with_json : Text → Text → ℕ → Text
with_json outcome key number = bare_json outcome ++ number_member key number

-- the member `number` of a refusal; nothing, if its cause has no number
abbrev pub number_json : Option ℕ → Text
number_json None = []
number_json (Some number) = number_member (codes "number") number

abbrev pub refusal_json : Cause → Text
refusal_json cause =
    bare_json (codes "refused") ++ word_member (codes "cause") (cause_words cause)
    ++ number_json (cause_number cause)

abbrev pub outcome_json : Outcome → Text
outcome_json (Asked stamp) = with_json (codes "asked") (codes "number") stamp.number
outcome_json (Entered n) = with_json (codes "entered") (codes "number") n
outcome_json (Value value) = with_json (codes "value") (codes "value") value
outcome_json Written = bare_json (codes "written")
outcome_json (Left receipt) =
    with_json (codes "left") (codes "number") receipt.number
    ++ number_member (codes "writes") (length receipt.writes.items)
outcome_json Cancelled = bare_json (codes "cancelled")
outcome_json (Sent count) = with_json (codes "sent") (codes "count") count
outcome_json Settled = bare_json (codes "settled")
outcome_json Delivered = bare_json (codes "delivered")
outcome_json Woken = bare_json (codes "woken")
outcome_json (Refused cause) = refusal_json cause

-- the line of the k-th event: an object with its outcome
abbrev pub event_json : Fields → ℕ → Entry → Text
event_json p k entry =
    number_start (codes "event") k ++ act_json p entry.event ++ outcome_json entry.outcome
    ++ codes "}\n"
