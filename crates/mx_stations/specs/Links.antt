-- The slots between the nodes: each link from a node to a node has four. A slot carries one parcel
-- at a time. At a table of n nodes, the word of slot k is the word n + k.
use Rattle.std.specs.Prelude.{◌≡◌, ◌≢◌, ℕ, ◌+◌, ◌*◌, ◌<◌, List, [], ◌∷◌, ◌++◌, length, Option, Some, None, ◌==◌, cond}
use mathlib.Core.Option.{some}
use mathlib.Core.Option as maybe
use lib.ListN.{get_elem?}
use Rattle.atomic_table.specs.Seated.{TableId}
use Rattle.mx_stamps.specs.Lists.{IsIn}
use Rattle.mx_stations.specs.declared.slots.Link.{Link}
use Rattle.mx_stations.specs.declared.slots.TheConstants.{SLOTS, EMPTY, CLAIMED, FILLED, TAKEN}
use Rattle.mx_stations.specs.Entries.{Entry, Stage, Writing, Reading}

-- the state of a slot: it is empty, its sender is filling it, a parcel lies there, or its receiver
-- is emptying it
pub data SlotState (P : Type 0) : Type 0 where
  empty : SlotState P
  claimed : SlotState P
  filled : P → SlotState P
  taken : SlotState P

-- the place, among all slots of n nodes, of the slot with this index (0 to 3) of the link from one
-- node to another
abbrev pub slot_at : ℕ → ℕ → ℕ → ℕ → ℕ
slot_at n from to index = (from * n + to) * SLOTS + index

abbrev pub slot_in : ℕ → Link → ℕ → ℕ
slot_in n link index = slot_at n link.from link.to index

abbrev pub IsLink : ℕ → Link → Type 0
IsLink n link = (link.from < n) × (link.to < n)

abbrev pub IsLinkAt : TableId → TableId → ℕ → Link → Type 0
IsLinkAt seat table n link = (seat ≡ table) × (IsLink n link)

-- the parcels of slot k in this list, in order
abbrev pub of : {P : Type 0} → ℕ → List (ℕ × P) → List P
of k [] = []
of k (x ∷ xs) = cond (x.0 == k) (x.1 ∷ of k xs) (of k xs)

-- the node has claimed slot k, and has not given it back yet
abbrev pub Writes : ℕ → Stage → Type 0
Writes k (Writing j) = j ≡ k
Writes k _ = ⊥

abbrev pub Reads : ℕ → Stage → Type 0
Reads k (Reading j) = j ≡ k
Reads k _ = ⊥

module _ {P : Type 0} where
  abbrev pub word_for : SlotState P → ℕ
  word_for empty = EMPTY
  word_for claimed = CLAIMED
  word_for (filled p) = FILLED
  word_for taken = TAKEN

  abbrev pub lying : SlotState P → List P
  lying (filled p) = p ∷ []
  lying _ = []

  abbrev pub IsClaimed : SlotState P → Type 0
  IsClaimed claimed = Unit {0}
  IsClaimed _ = ⊥

  abbrev pub IsTaken : SlotState P → Type 0
  IsTaken taken = Unit {0}
  IsTaken _ = ⊥

  -- slot k has the contents of this state; while a node fills or empties the slot, this says
  -- nothing
  abbrev pub Lies : List (maybe.Option (Option P)) → ℕ → SlotState P → Type 0
  Lies homes k empty = get_elem? homes k ≡ some (some None)
  Lies homes k (filled p) = get_elem? homes k ≡ some (some (Some p))
  Lies homes k _ = Unit {0}

  -- a parcel that lies in the slot was sent to node `to`
  abbrev pub WasSent : ℕ → List (ℕ × P) → SlotState P → Type 0
  WasSent to sent (filled p) = IsIn (to, p) sent
  WasSent to sent _ = Unit {0}

-- Slot k, through which e sends to f, is in this state. What f took from it is what e placed in it,
-- in order, except a parcel that lies there.
pub record IsSlot {T P : Type 0} (n : ℕ) (words : List ℕ) (homes : List (maybe.Option (Option P)))
    (k to : ℕ) (e f : Entry T P) (st : SlotState P) : Type 0 where
  pub word : get_elem? words (n + k) ≡ some (word_for st)
  pub lies : Lies homes k st
  pub log : of k e.placed ≡ of k f.taken ++ lying st
  pub sent : WasSent to e.sent st
  pub writer : (Writes k e.stage → IsClaimed st) × (IsClaimed st → Writes k e.stage)
  pub reader : (Reads k f.stage → IsTaken st) × (IsTaken st → Reads k f.stage)
  pub used : IsTaken st → of k f.taken ≢ []

-- each slot of the links between the nodes of the world is in some state
pub record Links {T P : Type 0} (n : ℕ) (words : List ℕ) (homes : List (maybe.Option (Option P)))
    (world : List (Entry T P)) : Type 0 where
  pub state : ℕ → SlotState P
  pub wide : length homes ≡ n * n * SLOTS
  pub each : (a b index : ℕ) (e f : Entry T P) → index < SLOTS → get_elem? world a ≡ some e
      → get_elem? world b ≡ some f
      → IsSlot n words homes (slot_at n a b index) b e f (state (slot_at n a b index))
