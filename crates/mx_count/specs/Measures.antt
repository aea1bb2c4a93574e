-- How long requests take, in letters: response times and synchronization delays.
use Rattle.std.specs.Prelude.{ℕ, ◌++◌, Bool, false, not, List, [], ◌∷◌, Option, Some, None, position, slice_get, take, if◌then◌else◌}
use Rattle.std.specs.List.{count_by}
use Rattle.std.specs.Option.{option_map_or}
use Rattle.mx_events.specs.declared.event.Event.{Event}
use Rattle.mx_events.specs.declared.event.Event.TheVariants.{Deliver, Leave}
use Rattle.mx_trace.specs.Trace.{is_entry}
use Rattle.mx_trace.specs.declared.outcome.Entry.{Entry}
use Rattle.mx_trace.specs.declared.outcome.Outcome.{Outcome}
use Rattle.mx_trace.specs.declared.outcome.Outcome.TheVariants.{Asked, Left}
use Rattle.mx_member.specs.declared.parcel.Parcel.{Parcel}
use Rattle.mx_count.specs.Kinds.{is_between}
use Rattle.mx_count.specs.Waits.{ends_wait}
use Rattle.mx_count.specs.NodeCounts.{is_entry_of}
use Rattle.mx_count.specs.declared.measures.Measure.{Measure}
use Rattle.mx_count.specs.declared.measures.Measure.TheVariants.{Response, Delay}

abbrev pub is_letter : {M : Type 0} → Option (ℕ × ℕ × Parcel M) → Bool
is_letter None = false
is_letter (Some p) = is_between p.0 p.1 p.2

-- an event delivers such a letter
abbrev pub delivers_letter : {M : Type 0} → List (ℕ × ℕ × Parcel M) → Event → Bool
delivers_letter sent (Deliver k) = is_letter (slice_get sent k)
delivers_letter sent _ = false

-- the number of letters that are delivered in these items of the trace, repeated ones too
abbrev pub letters_in : {M : Type 0} → List (ℕ × ℕ × Parcel M) → List Entry → ℕ
letters_in sent es = count_by (λ entry. delivers_letter sent entry.event) es

-- this index, if the item there satisfies `p`
abbrev pub place_if : (Entry → Bool) → List Entry → Option ℕ → Option ℕ
place_if p es None = None
place_if p es (Some k) = if option_map_or p (slice_get es k) false then Some k else None

-- the end of a response time: the next entry of the node that asked, unless the node cancels before
abbrev pub response_end : ℕ → List Entry → Option ℕ
response_end node es = place_if is_entry es (position (ends_wait node) es)

-- the end of a synchronization delay: the next entry, if it is not of the node that left
abbrev pub delay_end : ℕ → List Entry → Option ℕ
delay_end node es = place_if (λ entry. not (is_entry_of node entry)) es (position is_entry es)

-- the end of the response time that starts with this outcome, if it is `asked`; and (below) of the
-- synchronization delay that starts with this event, if it is a `leave` that is not refused
abbrev pub response_from : Outcome → List Entry → Option ℕ
response_from (Asked stamp) es = response_end stamp.node es
response_from _ es = None

abbrev pub delay_from : Event → Outcome → List Entry → Option ℕ
delay_from (Leave node) (Left receipt) es = delay_end node es
delay_from _ _ es = None

abbrev pub end_from : Measure → Entry → List Entry → Option ℕ
end_from Response entry es = response_from entry.outcome es
end_from Delay entry es = delay_from entry.event entry.outcome es

-- how many letters are delivered before this index, if there is one
abbrev pub letters_until : {M : Type 0} → List (ℕ × ℕ × Parcel M) → List Entry → Option ℕ → List ℕ
letters_until sent es None = []
letters_until sent es (Some k) = letters_in sent (take k es) ∷ []

-- how many letters are delivered in each response time, or each delay, in the order of their starts
unfoldable pub measured : {M : Type 0} → Measure → List (ℕ × ℕ × Parcel M) → List Entry → List ℕ
measured measure sent [] = []
measured measure sent (e ∷ es) =
    letters_until sent es (end_from measure e es) ++ measured measure sent es
