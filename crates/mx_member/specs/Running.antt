use Rattle.std.specs.Prelude.{ℕ, suc, ◌≡◌, ◌<◌, ◌≤◌, ◌↔◌, ◌+◌, ◌++◌, ◌⊎◌, List, [], ◌∷◌, Some, length, map, slice_get}
use Rattle.mx_stamps.specs.declared.limits.TheConstants.{MAX_REGISTERS}
use Rattle.mx_stamps.specs.Lists.{IsIn}
use Rattle.mx_journal.specs.declared.records.Record.{Record}
use Rattle.mx_journal.specs.declared.receipts.Read.{Read}
use Rattle.mx_journal.specs.declared.receipts.Receipt.{Receipt}
use Rattle.mx_journal.specs.Drafted.{record_of}
use Rattle.mx_journal.specs.Bases.{origin}
use Rattle.mx_journal.specs.Records.{Ascending, IsThere, record_at}
use Rattle.mx_journal.specs.Settled.{Covers, IsWithin, JournalState, settled, unsettled}
use Rattle.mx_registers.specs.Based.{registers_in}
use Rattle.mx_registers.specs.Registers.{AreApplied, writes_to}
use Rattle.mx_nodelaws.specs.World.{World}
use Rattle.mx_nodelaws.specs.Core.{Core}
use Rattle.mx_member.specs.declared.acts.Act.{Act}
use Rattle.mx_member.specs.declared.parcel.Parcel.{Parcel}
use Rattle.mx_member.specs.Acts.{act_of}
use Rattle.mx_member.specs.Member.{MemberState}
use Rattle.mx_member.specs.Receipts.{StandInOrder, closed_by, own_in, receipts_in}
use Rattle.mx_trace.specs.Sections.{Section}
use Rattle.mx_trace.specs.Serial.{IsSerialRead}
use Rattle.mx_member.specs.Steps.{start_of}
use Rattle.mx_member.specs.World.{IsSound}

-- a node: its member, and the receipts of the sections that it left, in order
pub record Owned (S : Type 0) : Type 0 where
  pub member : MemberState S
  pub receipts : List Receipt

abbrev pub members_of : {S : Type 0} → List (Owned S) → List (MemberState S)
members_of nodes = map (λ o. o.member) nodes

abbrev pub IsNode : {S : Type 0} → List (Owned S) → ℕ → Owned S → Type 0
IsNode nodes i o = slice_get nodes i ≡ Some o

abbrev pub owned_start : {H S M : Type 0} → Core H S M → H → ℕ → ℕ → ℕ → ℕ → Owned S
owned_start core shape me origin limit registers =
    record { member = start_of core shape me origin limit registers; receipts = [] }

-- a node after an act: the receipt that a leave returns joins those of the node
abbrev pub owned_after : {H S M : Type 0} → Core H S M → Act M → Owned S → Owned S
owned_after core a o =
    record {
      member = (act_of core a o.member).state;
      receipts = o.receipts ++ closed_by (act_of core a o.member).answer;
    }

-- the members, numbered from i on, as nodes: each has its own receipts among these
abbrev pub owners_from : {S : Type 0} → ℕ → List Receipt → List (MemberState S) → List (Owned S)
owners_from i rs [] = []
owners_from i rs (m ∷ ms) =
    record { member = m; receipts = own_in i rs } ∷ owners_from (suc i) rs ms

-- the members as nodes: each has the receipts of its closed sections
abbrev pub owners : {S : Type 0} → List Section → List (MemberState S) → List (Owned S)
owners ss members = owners_from 0 (receipts_in ss) members

-- a sound world, in which each node has the receipts of its closed sections
pub record IsRun {H S M : Type 0} (core : Core H S M) (Good : World S M → Type 0)
    (ss : List Section) (nodes : List (Owned S)) (sent : List (ℕ × ℕ × Parcel M)) : Type 0 where
  pub sound : IsSound core Good ss (members_of nodes) sent
  -- each node's receipts are those of its closed sections, in order
  pub own : (i : ℕ) (o : Owned S) → IsNode nodes i o → o.receipts ≡ own_in i (receipts_in ss)
  -- each closed section was entered by one of the nodes
  pub placed : (r : Receipt) → IsIn r (receipts_in ss) → r.node < length nodes
  -- each node's journal covers its own receipts
  pub recorded : (i : ℕ) (o : Owned S) (r : Receipt) → IsNode nodes i o → IsIn r o.receipts →
      Covers r.number o.member.journal

pub record IsRunning {H S M : Type 0} (core : Core H S M) (Good : World S M → Type 0)
    (nodes : List (Owned S)) (sent : List (ℕ × ℕ × Parcel M)) : Type 0 where
  pub sections : List Section
  pub run : IsRun core Good sections nodes sent

-- these receipts, the newest first, are exactly those of the nodes, and are in order
pub record IsHistory {S : Type 0} (nodes : List (Owned S)) (rs : List Receipt) : Type 0 where
  pub ordered : StandInOrder rs
  pub placed : (r : Receipt) → IsIn r rs → r.node < length nodes
  pub own : (i : ℕ) (o : Owned S) → IsNode nodes i o → o.receipts ≡ own_in i rs

abbrev pub receipt_count : {S : Type 0} → List (Owned S) → ℕ
receipt_count [] = 0
receipt_count (o ∷ os) = length o.receipts + receipt_count os

-- this receipt is the k-th of node i, counted from 0
abbrev pub IsReceiptAt : {S : Type 0} → List (Owned S) → ℕ → ℕ → Receipt → Type 0
IsReceiptAt {S} nodes i k r = (o : Owned S) × IsNode nodes i o × (slice_get o.receipts k ≡ Some r)

-- the journal is above the journal of each node
abbrev pub IsAboveNodes : {S : Type 0} → List (Owned S) → JournalState → Type 0
IsAboveNodes {S} nodes journal =
    (i : ℕ) (o : Owned S) → IsNode nodes i o → IsWithin o.member.journal journal

-- the journal is the join of the nodes' journals: it is above each of them, its base is one of
-- theirs or that of no sections, and each of its records is one of theirs
pub record IsJoinOfNodes {S : Type 0} (nodes : List (Owned S))
    (journal : JournalState) : Type 0 where
  pub above : IsAboveNodes nodes journal
  pub base : (journal.base ≡ origin)
      ⊎ ((i : ℕ) × (o : Owned S) × IsNode nodes i o × (journal.base ≡ o.member.journal.base))
  pub records : (x : Record) → IsIn x journal.records →
      (i : ℕ) × (o : Owned S) × IsNode nodes i o × IsIn x o.member.journal.records

-- the receipts of all nodes and a journal are of the same sections, which follow one another;
-- `sections` has the records of the receipts
pub record IsAccount {S : Type 0} (nodes : List (Owned S)) (sections : List Record)
    (journal : JournalState) : Type 0 where
  -- each receipt of node i names node i, and has a number from 1 to the number of all receipts
  pub within : (i k : ℕ) (r : Receipt) → IsReceiptAt nodes i k r →
      (r.node ≡ i) × (1 ≤ r.number) × (r.number ≤ receipt_count nodes)
  -- exactly one receipt has each of these numbers
  pub each : (n : ℕ) → 1 ≤ n → n ≤ receipt_count nodes →
      (i : ℕ) × (k : ℕ) × (r : Receipt) × IsReceiptAt nodes i k r × (r.number ≡ n)
  pub once : (i k j l : ℕ) (r s : Receipt) → IsReceiptAt nodes i k r → IsReceiptAt nodes j l s →
      r.number ≡ s.number → (i ≡ j) × (k ≡ l) × (r ≡ s)
  -- a node's later receipts have greater numbers
  pub ascends : (i k l : ℕ) (r s : Receipt) → IsReceiptAt nodes i k r → IsReceiptAt nodes i l s →
      k < l → r.number < s.number
  -- `sections` has exactly these numbers, in ascending order; each record is that of the receipt
  -- with its number
  pub ordered : Ascending 1 sections
  pub keys : (n : ℕ) → IsThere n sections ↔ ((1 ≤ n) × (n ≤ receipt_count nodes))
  pub records : (i k : ℕ) (r : Receipt) → IsReceiptAt nodes i k r →
      record_at r.number sections ≡ Some (record_of r)
  -- the journal is that of `sections`, settled up to its base: it covers exactly these numbers, and
  -- has the record of each receipt above its base
  pub whole : journal ≡ settled journal.base.upto (unsettled sections)
  pub covers : (n : ℕ) → Covers n journal ↔ ((1 ≤ n) × (n ≤ receipt_count nodes))
  pub kept : (i k : ℕ) (r : Receipt) → IsReceiptAt nodes i k r → journal.base.upto < r.number →
      record_at r.number journal.records ≡ Some (record_of r)
  -- each value read is that of the register after the writes of all earlier sections, in order, and
  -- the section's own earlier writes
  pub reads : (i k n : ℕ) (r : Receipt) (x : Read) → IsReceiptAt nodes i k r → r.number ≡ suc n →
      IsIn x r.reads.items → IsSerialRead (writes_to n sections) r.writes.items x
  -- each register of the journal has the value after the writes of all sections, in order
  pub shows : (count : ℕ) → count ≤ MAX_REGISTERS →
      AreApplied (writes_to (receipt_count nodes) sections) (registers_in count journal)
