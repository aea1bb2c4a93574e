-- A run with events of every kind, and the journals after it, merged.
use Rattle.std.specs.Prelude.{ℕ, ◌≡◌, List, [], ◌∷◌, ◌++◌, Option, Some, None, replicate, slice_get}
use Rattle.mx_journal.specs.declared.records.Record.{Record}
use Rattle.mx_journal.specs.declared.receipts.Read.{Read}
use Rattle.mx_journal.specs.declared.receipts.Receipt.{Receipt}
use Rattle.mx_journal.specs.Bases.{BaseState, unwritten}
use Rattle.mx_journal.specs.Settled.{DoAgree, JournalState}
use Rattle.mx_merge.specs.Join.{IsLeastJournal}
use Rattle.mx_registers.specs.declared.contents.Content.{Content}
use Rattle.mx_registers.specs.Based.{registers_in}
use Rattle.mx_nodelaws.specs.Core.{Core}
use Rattle.mx_member.specs.Member.{MemberState}
use Rattle.mx_events.specs.declared.event.Event.TheVariants as event
use Rattle.mx_trace.specs.declared.cause.Cause.TheVariants.{Gap}
use Rattle.mx_trace.specs.declared.outcome.Entry.{Entry}
use Rattle.mx_trace.specs.declared.outcome.Outcome.TheVariants.{Asked, Entered, Value, Written, Left, Cancelled, Settled, Sent, Delivered, Woken, Refused}
use Rattle.mx_network.specs.Step.{ClusterState}
use Rattle.mx_model_runs.specs.Runs.{Happens, first_receipt, is, stamp}

abbrev pub journal_in : {S : Type 0} → Option (MemberState S) → Option JournalState
journal_in None = None
journal_in (Some m) = Some m.journal

abbrev pub journal_at : {S M : Type 0} → ClusterState S M → ℕ → Option JournalState
journal_at g i = journal_in (slice_get g.members i)

-- the trace is that of a run, after which node 0 has the journal a and node 1 the journal b; these
-- agree, j is their join, and register 0 of j has these contents
pub record Merges {H S M : Type 0} (core : Core H S M) (IsShape : H → Type 0) (shape : H)
    (trace : List Entry) (a b j : JournalState) (registers : List Content) : Type 0 where
  pub happens : Happens core IsShape shape trace
  pub of_zero : journal_at happens.after 0 ≡ Some a
  pub of_one : journal_at happens.after 1 ≡ Some b
  pub agree : DoAgree a b
  pub join : IsLeastJournal a b j
  pub shown : registers_in 1 j ≡ registers

-- the receipt of a section with these reads, which wrote this value to register 0
abbrev pub receipt : ℕ → ℕ → List Read → ℕ → Receipt
receipt number node reads value =
    record {
      number = number;
      node = node;
      reads = record { items = reads };
      writes = record { items = record { register = 0; value = value } ∷ [] };
    }

-- a read of this value from register 0, before any write
abbrev pub got : ℕ → Read
got value = record { value = value; register = 0; after = 0 }

-- node 1 withdraws a request; node 0 sends its request twice, enters section 1, writes 7 and leaves
abbrev pub first_part : List Entry
first_part =
    is (event.Ask 1) (Asked (stamp 1 1)) ∷ is (event.Cancel 1) Cancelled ∷
    is (event.Ask 0) (Asked (stamp 1 0)) ∷ is (event.Tick 0) (Sent 1)
    ∷ is (event.Deliver 2) Delivered ∷ is (event.Deliver 3) Delivered ∷
    is (event.Enter 0) (Entered 1) ∷ is (event.Write 0 0 7) Written
    ∷ is (event.Leave 0) (Left first_receipt) ∷ []

-- node 0 enters section 2, restarts in it, and settles section 1
abbrev pub second_part : List Entry
second_part =
    is (event.Ask 0) (Asked (stamp 2 0)) ∷ is (event.Deliver 4) Delivered
    ∷ is (event.Deliver 5) Delivered ∷
    is (event.Enter 0) (Entered 2) ∷ is (event.Write 0 0 8) Written ∷ is (event.Restart 0) Woken ∷
    is (event.Read 0 0) (Value 7) ∷ is (event.Write 0 0 9) Written
    ∷ is (event.Leave 0) (Left (receipt 2 0 (got 7 ∷ []) 9)) ∷
    is (event.Settle 0 1) Settled ∷ []

-- node 1 enters section 3; its first read there is refused, and the next returns a value, once node
-- 1 has node 0's base and record; node 0 settles section 2
abbrev pub third_part : List Entry
third_part =
    is (event.Ask 1) (Asked (stamp 3 1)) ∷ is (event.Deliver 6) Delivered
    ∷ is (event.Deliver 7) Delivered ∷
    is (event.Enter 1) (Entered 3) ∷ is (event.Read 1 0) (Refused (Gap 1)) ∷
    is (event.Want 1 0) (Sent 1) ∷ is (event.Deliver 8) Delivered ∷ is (event.Deliver 9) Delivered
    ∷ is (event.Deliver 10) Delivered ∷
    is (event.Read 1 0) (Value 9) ∷ is (event.Write 1 0 5) Written
    ∷ is (event.Leave 1) (Left (receipt 3 1 (got 9 ∷ []) 5)) ∷
    is (event.Settle 0 2) Settled ∷ []

-- node 0 enters section 4, without the record of section 3
abbrev pub fourth_part : List Entry
fourth_part =
    is (event.Ask 0) (Asked (stamp 4 0)) ∷ is (event.Deliver 11) Delivered
    ∷ is (event.Deliver 12) Delivered ∷
    is (event.Enter 0) (Entered 4) ∷ is (event.Write 0 0 6) Written
    ∷ is (event.Leave 0) (Left (receipt 4 0 [] 6)) ∷ []

abbrev pub journals_trace : List Entry
journals_trace = first_part ++ (second_part ++ (third_part ++ fourth_part))

-- the base of sections 1 to `upto`: section `number` wrote the value to register 0, and no section
-- wrote another register
abbrev pub base : ℕ → ℕ → ℕ → BaseState
base upto value number =
    record {
      upto = upto;
      cells = record { value = value; number = number } ∷ replicate 31 unwritten;
    }

-- the record of a section that wrote the value to register 0
abbrev pub entry : ℕ → ℕ → ℕ → Record
entry number node value =
    record {
      number = number;
      node = node;
      writes = record { items = record { register = 0; value = value } ∷ [] };
    }

-- the journal of node 0 after the run, that of node 1, and the join of both
abbrev pub zeros_journal : JournalState
zeros_journal = record { base = base 2 9 2; records = entry 4 0 6 ∷ [] }

abbrev pub ones_journal : JournalState
ones_journal = record { base = base 1 7 1; records = entry 2 0 9 ∷ entry 3 1 5 ∷ [] }

abbrev pub joint_journal : JournalState
joint_journal = record { base = base 2 9 2; records = entry 3 1 5 ∷ entry 4 0 6 ∷ [] }

-- register 0 has the value that section 4 wrote
abbrev pub joint_registers : List Content
joint_registers = record { value = 6; by = Some 4 } ∷ []
