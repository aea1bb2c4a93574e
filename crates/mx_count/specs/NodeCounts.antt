-- The counts of each node of a cluster.
use Rattle.std.specs.Prelude.{ℕ, ◌&&◌, Bool, false, List, [], ◌∷◌, Option, Some, None, codes, nat_eq, slice_get}
use Rattle.std.specs.List.{count_by, flat_map, range_with_len}
use Rattle.mx_events.specs.Events.{node_of}
use Rattle.mx_events.specs.declared.event.Event.{Event}
use Rattle.mx_events.specs.declared.event.Event.TheVariants.{Deliver}
use Rattle.mx_trace.specs.Trace.{is_entry}
use Rattle.mx_trace.specs.declared.outcome.Entry.{Entry}
use Rattle.mx_member.specs.declared.parcel.Parcel.{Parcel}
use Rattle.mx_network.specs.Step.{ClusterState}
use Rattle.mx_count.specs.Rows.{Row}
use Rattle.mx_count.specs.Waits.{is_refusal}
use Rattle.mx_count.specs.declared.rows.Level.TheVariants.{Node, Next}
use Rattle.mx_count.specs.declared.rows.Value.TheVariants.{Number}

abbrev pub is_node : ℕ → Option ℕ → Bool
is_node i None = false
is_node i (Some node) = nat_eq node i

-- node i enters with this item of the trace
abbrev pub is_entry_of : ℕ → Entry → Bool
is_entry_of i entry = is_node i (node_of entry.event) && is_entry entry

-- this item of the trace is a refused event of node i
abbrev pub is_refusal_of : ℕ → Entry → Bool
is_refusal_of i entry = is_node i (node_of entry.event) && is_refusal entry.outcome

-- node i is the addressee of the parcel
abbrev pub is_addressee : {M : Type 0} → ℕ → Option (ℕ × ℕ × Parcel M) → Bool
is_addressee i None = false
is_addressee i (Some p) = nat_eq p.1 i

-- the event delivers a parcel to node i
abbrev pub is_delivered_to : {M : Type 0} → ℕ → List (ℕ × ℕ × Parcel M) → Event → Bool
is_delivered_to i sent (Deliver k) = is_addressee i (slice_get sent k)
is_delivered_to i sent _ = false

-- how often node i entered; and (below) how many parcels it sent, how many deliveries there were to
-- it, repeated ones too, and how many of its events were refused
abbrev pub entries_of : {S M : Type 0} → ℕ → ClusterState S M → ℕ
entries_of i g = count_by (is_entry_of i) g.trace

abbrev pub sent_of : {S M : Type 0} → ℕ → ClusterState S M → ℕ
sent_of i g = count_by (λ p. nat_eq p.0 i) g.sent

abbrev pub received_of : {S M : Type 0} → ℕ → ClusterState S M → ℕ
received_of i g = count_by (λ entry. is_delivered_to i g.sent entry.event) g.trace

abbrev pub refused_of : {S M : Type 0} → ℕ → ClusterState S M → ℕ
refused_of i g = count_by (is_refusal_of i) g.trace

-- the rows of node i, and (below) of the first nodes
abbrev pub rows_of_node : {S M : Type 0} → ClusterState S M → ℕ → List Row
rows_of_node g i =
    (Node i, codes "sections", Number (entries_of i g)) ∷ (Next, codes "sent", Number (sent_of i g))
    ∷ (Next, codes "received", Number (received_of i g))
    ∷ (Next, codes "refused", Number (refused_of i g)) ∷ []

abbrev pub node_rows : {S M : Type 0} → ClusterState S M → ℕ → List Row
node_rows g n = flat_map (rows_of_node g) (range_with_len 0 n)
