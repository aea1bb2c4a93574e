-- Whether a run stands still. It does if nothing is under way, some node waits, and no node is ready:
-- none is inside or may enter. Then only a tick, a new request, a want or a cancel leads on.
use Rattle.std.specs.Prelude.{ℕ, ◌||◌, ◌+◌, Bool, true, false, List, [], ◌∷◌, ◌++◌, Option, Some, None, if◌then◌else◌, length, nat_eq, not, slice_set}
use Rattle.std.specs.List.{list_any}
use Rattle.std.specs.Option.{option_map_or}
use Rattle.mx_stamps.specs.Lists.{each_below}
use Rattle.mx_knowledge.specs.Facts.{Known}
use Rattle.mx_nodelaws.specs.Core.{Core}
use Rattle.mx_nodelaws.specs.Phases.{is_inside, is_waiting}
use Rattle.mx_member.specs.Member.{MemberState}
use Rattle.mx_events.specs.declared.event.Event.{Event}
use Rattle.mx_events.specs.declared.event.Event.TheVariants.{Deliver}
use Rattle.mx_network.specs.Step.{ClusterState}
use Rattle.mx_trace.specs.declared.outcome.Entry.{Entry}
use Rattle.mx_format.specs.StuckTexts.{WaiterState, waiter}

-- ---- under way

-- the number of the parcel that an event delivers, if it delivers one
abbrev pub delivered_by : Event → Option ℕ
delivered_by (Deliver number) = Some number
delivered_by event = None

-- some event delivered parcel k
abbrev pub is_delivered : List Entry → ℕ → Bool
is_delivered trace k =
    list_any (λ entry. option_map_or (nat_eq k) (delivered_by entry.event) false) trace

-- marks of the parcels that were delivered, with that of this parcel
abbrev pub marked : Option ℕ → List Bool → List Bool
marked number marks = option_map_or (λ k. slice_set marks k true) number marks

-- some parcel was sent and never delivered
abbrev pub has_undelivered : {S M : Type 0} → ClusterState S M → Bool
has_undelivered g =
    list_any (λ k. not (is_delivered g.trace k)) (each_below (λ k. k) (length g.sent))

-- ---- nodes

-- the node is inside, or it waits and may enter
abbrev pub is_ready : {H S M : Type 0} → Core H S M → MemberState S → Bool
is_ready core m = core.can_enter m.core || is_inside (core.phase m.core)

module _ {H S M : Type 0} (core : Core H S M) (knows : S → List Known) where
  -- node i and those for which it waits, as a list; the empty list, unless it waits
  abbrev pub waiter_at : ℕ → MemberState S → List WaiterState
  waiter_at i m =
      if is_waiting (core.phase m.core) then waiter i (knows m.core) ∷ [] else []

  -- the nodes that wait, in the order of nodes. The first node has index i
  abbrev pub waiters_from : ℕ → List (MemberState S) → List WaiterState
  waiters_from i [] = []
  waiters_from i (m ∷ members) = waiter_at i m ++ waiters_from (i + 1) members

  -- the nodes that wait, if no node is ready; none otherwise. If nothing is under way, these are the
  -- nodes of a run that stands still
  abbrev pub stuck_nodes : List (MemberState S) → List WaiterState
  stuck_nodes members = if list_any (is_ready core) members then [] else waiters_from 0 members

  -- the nodes that wait in a replay that stands still: a parcel is under way if it was never
  -- delivered. None, if the replay does not stand still
  abbrev pub stuck_in : ClusterState S M → List WaiterState
  stuck_in g = if has_undelivered g then [] else stuck_nodes g.members
