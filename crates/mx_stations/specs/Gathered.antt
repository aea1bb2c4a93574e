use Rattle.std.specs.Prelude.{◌≡◌, ◌≢◌, ◌↔◌, ℕ, suc, ◌<◌, ◌≤◌, List, [], ◌∷◌, ◌++◌, Some, map, length, take, slice_get}
use Rattle.std.specs.List.Sorted.{IsNonDecreasingBy, IsPermutation}
use mathlib.Core.Option.{some}
use lib.ListN.{get_elem?}
use Rattle.atomic_table.specs.Seated.{TableId}
use Rattle.mx_stamps.specs.Lists.{IsIn}
use Rattle.mx_stamps.specs.declared.limits.TheConstants.{MAX_REGISTERS}
use Rattle.mx_journal.specs.declared.receipts.Read.{Read}
use Rattle.mx_journal.specs.declared.receipts.Receipt.{Receipt}
use Rattle.mx_journal.specs.Drafted.{record_of}
use Rattle.mx_journal.specs.Records.{Ascending}
use Rattle.mx_journal.specs.Settled.{Covers, DoAgree, JournalState, settled, unsettled}
use Rattle.mx_registers.specs.Based.{registers_in}
use Rattle.mx_registers.specs.Registers.{AreApplied, writes_to}
use Rattle.mx_nodelaws.specs.Core.{Core, IsInside}
use Rattle.mx_member.specs.declared.parcel.Parcel.{Parcel}
use Rattle.mx_member.specs.Member.{MemberState}
use Rattle.mx_member.specs.Running.{IsJoinOfNodes, IsNode, Owned}
use Rattle.mx_trace.specs.Serial.{IsSerialRead}
use Rattle.mx_stations.specs.declared.collection.GatherFault.{GatherFault}
use Rattle.mx_stations.specs.declared.collection.GatherFault.TheVariants.{NotAll, StillInside, Memory}
use Rattle.mx_stations.specs.Entries.{Entry, owned_of}
use Rattle.mx_stations.specs.Posts.{Post}

module _ {T P : Type 0} where
  abbrev pub me_of : Post T P → Entry T P
  me_of s = s.me

  -- all stations are at one table, and have the same number of nodes
  abbrev pub OfOneTable : List (Post T P) → Type 0
  OfOneTable posts = (table : TableId) × (n : ℕ) × ((k : ℕ) (s : Post T P)
      → get_elem? posts k ≡ some s → (s.table ≡ table) × (s.nodes ≡ n))

  -- a station after acts and moves is still at its table
  abbrev pub KeepsTable : Post T P → Post T P → Type 0
  KeepsTable s t = (t.table ≡ s.table) × (t.nodes ≡ s.nodes)

  -- the number of nodes of the stations' table, or 1 if there is no station
  abbrev pub nodes_in : List (Post T P) → ℕ
  nodes_in [] = 1
  nodes_in (s ∷ posts) = s.nodes

  -- the station of node i is among these
  abbrev pub Has : List (Post T P) → ℕ → Type 0
  Has posts i = (k : ℕ) × (s : Post T P) × (get_elem? posts k ≡ some s) × (s.me.node ≡ i)

  abbrev pub Lacks : List (Post T P) → ℕ → Type 0
  Lacks posts i = (k : ℕ) (s : Post T P) → get_elem? posts k ≡ some s → s.me.node ≢ i

  -- the station of each node is among these
  abbrev pub IsWhole : List (Post T P) → Type 0
  IsWhole posts = (i : ℕ) → i < nodes_in posts → Has posts i

  abbrev pub IsLeastMissing : List (Post T P) → ℕ → Type 0
  IsLeastMissing posts i = (i < nodes_in posts) × Lacks posts i × ((j : ℕ) → j < i → Has posts j)

  -- the receipts of all stations, station by station
  abbrev pub receipts_of : List (Post T P) → List Receipt
  receipts_of [] = []
  receipts_of (s ∷ posts) = s.me.receipts ++ receipts_of posts

module _ {H S M : Type 0} (core : Core H S M) where
  -- the station of node i is among these, and node i is inside
  abbrev pub HasInside : List (Post (MemberState S) (Parcel M)) → ℕ → Type 0
  HasInside posts i = (k : ℕ) × (s : Post (MemberState S) (Parcel M))
      × (get_elem? posts k ≡ some s) × (s.me.node ≡ i) × IsInside core s.me.member.core

  abbrev pub NotInside : List (Post (MemberState S) (Parcel M)) → ℕ → Type 0
  NotInside posts i = (k : ℕ) (s : Post (MemberState S) (Parcel M))
      → get_elem? posts k ≡ some s → s.me.node ≡ i → IsInside core s.me.member.core → ⊥

  -- no node is inside
  abbrev pub IsQuiet : List (Post (MemberState S) (Parcel M)) → Type 0
  IsQuiet posts = (i : ℕ) → i < nodes_in posts → NotInside posts i

  abbrev pub IsLeastInside : List (Post (MemberState S) (Parcel M)) → ℕ → Type 0
  IsLeastInside posts i = (i < nodes_in posts) × HasInside posts i
      × ((j : ℕ) → j < i → NotInside posts j)

  -- the station of each node is among these, and no node is inside
  abbrev pub IsReady : List (Post (MemberState S) (Parcel M)) → Type 0
  IsReady posts = IsWhole posts × IsQuiet posts

  -- why the stations are not gathered: i is the least node whose station is missing; none is
  -- missing, and i is the least node inside; or no node is inside either, and memory ran out
  abbrev pub Refuses : List (Post (MemberState S) (Parcel M)) → GatherFault → Type 0
  Refuses posts (NotAll i) = IsLeastMissing posts i
  Refuses posts (StillInside i) = IsWhole posts × IsLeastInside posts i
  Refuses posts Memory = IsReady posts

-- the nodes of the stations, each with its receipts
abbrev pub owned_in : {S M : Type 0} → List (Post (MemberState S) (Parcel M)) → List (Owned S)
owned_in posts = map (λ s. owned_of s.me) posts

-- some node's journal does not agree with the join of the journals before it
abbrev pub Disagree : {S : Type 0} → List (Owned S) → Type 0
Disagree {S} nodes = (k : ℕ) × (o : Owned S) × (all : JournalState) × IsNode nodes k o
    × IsJoinOfNodes (take k nodes) all × (DoAgree all o.member.journal → ⊥)

-- the journal is the join of the stations' journals, with its records in order. The receipts are
-- those of all stations, each once, sorted by number
pub record IsTogether {S M : Type 0} (posts : List (Post (MemberState S) (Parcel M)))
    (journal : JournalState) (receipts : List Receipt) : Type 0 where
  pub join : IsJoinOfNodes (owned_in posts) journal
  pub ordered : Ascending (suc journal.base.upto) journal.records
  pub each : IsPermutation (receipts_of posts) receipts
  pub sorted : IsNonDecreasingBy (λ (r : Receipt). r.number) receipts

-- The gathered receipts are one serial order of all sections that were left.
pub record IsGathered {T P : Type 0} (posts : List (Post T P)) (journal : JournalState)
    (receipts : List Receipt) : Type 0 where
  -- the receipts are those of all stations, each once, and each is of the node whose station has it
  pub each : IsPermutation (receipts_of posts) receipts
  pub own : (k : ℕ) (s : Post T P) (r : Receipt) → get_elem? posts k ≡ some s
      → IsIn r s.me.receipts → r.node ≡ s.me.node
  -- a station's later receipts have greater numbers
  pub ascends : (j k l : ℕ) (s : Post T P) (r t : Receipt) → get_elem? posts j ≡ some s
      → slice_get s.me.receipts k ≡ Some r → slice_get s.me.receipts l ≡ Some t → k < l
      → r.number < t.number
  -- the gathered receipts have the numbers 1, 2, 3 and so on
  pub numbered : (k : ℕ) (r : Receipt) → slice_get receipts k ≡ Some r → r.number ≡ suc k
  -- the journal has exactly the records of the receipts, in order, except that those up to its base
  -- are settled: the base has the registers after them
  pub records : journal ≡ settled journal.base.upto (unsettled (map record_of receipts))
  -- so the journal covers the numbers from 1 to the number of receipts, and no others
  pub covers : (n : ℕ) → Covers n journal ↔ ((1 ≤ n) × (n ≤ length receipts))
  -- each value read is the register's after the writes of the receipts before, in order, and the
  -- receipt's own writes before the read
  pub reads : (k : ℕ) (r : Receipt) (x : Read) → slice_get receipts k ≡ Some r
      → IsIn x r.reads.items → IsSerialRead (writes_to k (map record_of receipts)) r.writes.items x
  -- and each register of the journal has its value after the writes of all receipts, in order
  pub shows : (count : ℕ) → count ≤ MAX_REGISTERS
      → AreApplied (writes_to (length receipts) (map record_of receipts))
      (registers_in count journal)
