-- A run of a cluster that starts idle, and one trace of each algorithm: node 0 is in section 1
-- while node 1 waits, and then node 1 enters section 2.
use Rattle.std.specs.Prelude.{ℕ, ◌≡◌, true, false, List, [], ◌∷◌, map}
use Rattle.mx_stamps.specs.Lists.{each_below}
use Rattle.mx_stamps.specs.declared.stamp.Stamp.{Stamp}
use Rattle.mx_journal.specs.declared.receipts.Receipt.{Receipt}
use Rattle.mx_nodelaws.specs.Core.{Core}
use Rattle.mx_quorums.specs.Family.{Family}
use Rattle.mx_trees.specs.Tree.{Rooted}
use Rattle.mx_member.specs.Steps.{start_of}
use Rattle.mx_events.specs.declared.event.Event.{Event}
use Rattle.mx_events.specs.declared.event.Event.TheVariants.{Ask, Enter, Write, Leave, Deliver}
use Rattle.mx_trace.specs.declared.cause.Cause.TheVariants.{NotGranted}
use Rattle.mx_trace.specs.declared.outcome.Entry.{Entry}
use Rattle.mx_trace.specs.declared.outcome.Outcome.{Outcome}
use Rattle.mx_trace.specs.declared.outcome.Outcome.TheVariants.{Asked, Entered, Written, Left, Delivered, Refused}
use Rattle.mx_network.specs.Step.{ClusterState, RunsTo}

-- an idle cluster with origin 0, limit 10 and one register
abbrev pub at_rest : {H S M : Type 0} → Core H S M → H → ClusterState S M
at_rest core shape =
    record {
      members = each_below (λ i. start_of core shape i 0 10 1)
          (core.count shape);
      sent = [];
      trace = [];
    }

abbrev pub events_of : List Entry → List Event
events_of trace = map (λ (e : Entry). e.event) trace

-- the shape is valid, and the events of the trace, run in a cluster that starts idle, have the
-- outcomes of the trace
pub record Happens {H S M : Type 0} (core : Core H S M) (IsShape : H → Type 0) (shape : H)
    (trace : List Entry) : Type 0 where
  pub valid : IsShape shape
  pub after : ClusterState S M
  pub run : RunsTo core (at_rest core shape) (events_of trace) after
  pub told : after.trace ≡ trace

abbrev pub stamp : ℕ → ℕ → Stamp
stamp number node = record { number = number; node = node }

-- the receipt of section 1 of node 0, which wrote 7
abbrev pub first_receipt : Receipt
first_receipt =
    record {
      number = 1;
      node = 0;
      reads = record { items = [] };
      writes = record { items = record { register = 0; value = 7 } ∷ [] };
    }

-- an event, and its outcome
abbrev pub is : Event → Outcome → Entry
is event outcome = record { event = event; outcome = outcome }

abbrev pub ricart_trace : List Entry
ricart_trace =
    is (Ask 0) (Asked (stamp 1 0)) ∷ is (Ask 1) (Asked (stamp 1 1)) ∷ is (Deliver 0) Delivered
    ∷ is (Deliver 1) Delivered ∷ is (Deliver 2) Delivered ∷
    is (Enter 0) (Entered 1) ∷ is (Enter 1) (Refused NotGranted) ∷ is (Write 0 0 7) Written
    ∷ is (Leave 0) (Left first_receipt) ∷
    is (Deliver 3) Delivered ∷ is (Enter 1) (Entered 2) ∷ []

-- two nodes: node 0 is the only arbiter of node 0, and both are arbiters of node 1
abbrev pub two_sets : Family
two_sets = record { count = 2; rows = (true ∷ false ∷ []) ∷ (true ∷ true ∷ []) ∷ [] }

abbrev pub maekawa_trace : List Entry
maekawa_trace =
    is (Ask 0) (Asked (stamp 1 0)) ∷ is (Ask 1) (Asked (stamp 1 1)) ∷ is (Deliver 0) Delivered
    ∷ is (Deliver 1) Delivered ∷ is (Deliver 2) Delivered ∷ is (Deliver 3) Delivered ∷
    is (Enter 0) (Entered 1) ∷ is (Deliver 5) Delivered ∷ is (Enter 1) (Refused NotGranted)
    ∷ is (Write 0 0 7) Written ∷ is (Leave 0) (Left first_receipt) ∷
    is (Deliver 6) Delivered ∷ is (Deliver 7) Delivered ∷ is (Enter 1) (Entered 2) ∷ []

-- two neighbours; node 0 has the privilege
abbrev pub two_nodes : Rooted
two_nodes =
    record {
      count = 2;
      holder = 0;
      rows = (false ∷ true ∷ []) ∷ (true ∷ false ∷ []) ∷ [];
      next = 0 ∷ 0 ∷ [];
    }

abbrev pub raymond_trace : List Entry
raymond_trace =
    is (Ask 0) (Asked (stamp 1 0)) ∷ is (Enter 0) (Entered 1) ∷ is (Ask 1) (Asked (stamp 1 1))
    ∷ is (Enter 1) (Refused NotGranted) ∷ is (Deliver 0) Delivered ∷
    is (Write 0 0 7) Written ∷ is (Leave 0) (Left first_receipt) ∷ is (Deliver 1) Delivered
    ∷ is (Enter 1) (Entered 2) ∷ []
