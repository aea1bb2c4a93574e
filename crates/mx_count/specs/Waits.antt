-- How long nodes waited.
use Rattle.std.specs.Prelude.{ℕ, ◌+◌, ◌&&◌, Bool, true, false, not, List, [], ◌∷◌, length, max, nat_eq, position, unwrap_or}
use Rattle.mx_events.specs.declared.event.Event.{Event}
use Rattle.mx_events.specs.declared.event.Event.TheVariants.{Enter, Cancel}
use Rattle.mx_trace.specs.declared.outcome.Entry.{Entry}
use Rattle.mx_trace.specs.declared.outcome.Outcome.{Outcome}
use Rattle.mx_trace.specs.declared.outcome.Outcome.TheVariants.{Asked, Refused}

-- the event is an `enter` or a `cancel` of this node
abbrev pub is_end : ℕ → Event → Bool
is_end node (Enter other) = nat_eq other node
is_end node (Cancel other) = nat_eq other node
is_end node _ = false

abbrev pub is_refusal : Outcome → Bool
is_refusal (Refused cause) = true
is_refusal _ = false

-- the wait of this node ends with this item of the trace: the node enters or cancels
abbrev pub ends_wait : ℕ → Entry → Bool
ends_wait node entry = is_end node entry.event && not (is_refusal entry.outcome)

-- how many events come before the end of this node's wait; all events, if its wait has no end
abbrev pub until_end : ℕ → List Entry → ℕ
until_end node es = unwrap_or (position (ends_wait node) es) (length es)

-- the number of events in the wait that starts with this outcome, if these events follow; 0, if the
-- outcome starts no wait
abbrev pub wait_from : Outcome → List Entry → ℕ
wait_from (Asked stamp) es = 1 + until_end stamp.node es
wait_from _ es = 0

-- the number of events in the longest wait of a node
unfoldable pub longest_wait : List Entry → ℕ
longest_wait [] = 0
longest_wait (e ∷ es) = max (wait_from e.outcome es) (longest_wait es)
