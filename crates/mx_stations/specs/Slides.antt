use Rattle.std.specs.Prelude.{◌≡◌, ◌≢◌, ◌⊎◌, ℕ, List, [], ◌∷◌, ◌++◌, Option, Some, None}
use Rattle.atomic_table.specs.Table.{Me}
use Rattle.mx_stations.specs.declared.slots.TheConstants.{EMPTY, FILLED}
use Rattle.mx_stations.specs.Entries.{Entry, Idle, Writing, Reading}
use Rattle.mx_stations.specs.Links.{of}
use Rattle.mx_stamps.specs.Lists.{IsIn}

module _ {T P : Type 0} where
  abbrev pub claiming : ℕ → Entry T P → Entry T P
  claiming k e = record e { stage = Writing k }

  abbrev pub placing : ℕ → P → Entry T P → Entry T P
  placing k p e = record e { stage = Idle; placed = e.placed ++ (k, p) ∷ [] }

  abbrev pub taking : ℕ → ℕ → P → Entry T P → Entry T P
  taking k from p e =
      record e { hand = Some (from, p); stage = Reading k; taken = e.taken ++ (k, p) ∷ [] }

  -- the node has given its slot back, and has this in hand: the parcel, or nothing if it was thrown
  -- away
  abbrev pub releasing : Option (ℕ × P) → Entry T P → Entry T P
  releasing hand e = record e { hand = hand; stage = Idle }

  -- the seat has claimed slot k, which was empty
  abbrev pub Claims : ℕ → Me (Option P) (List (Entry T P)) → Me (Option P) (List (Entry T P))
      → Type 0
  Claims k m m' =
      (e : Entry T P) × (m.0 ≡ e ∷ []) × (m' ≡ (claiming k e ∷ [], (k, None) ∷ m.1))

  abbrev pub HasUsed : ℕ → Me (Option P) (List (Entry T P)) → Type 0
  HasUsed k m = (e : Entry T P) × (m.0 ≡ e ∷ []) × (of k e.placed ≢ [])

  -- one try to claim slot k, which found this word
  abbrev pub TriesClaim : ℕ → Me (Option P) (List (Entry T P)) → ℕ
      → Me (Option P) (List (Entry T P)) → Type 0
  TriesClaim k m found m' =
      (found ≡ EMPTY → Claims k m m') × (found ≢ EMPTY → (m' ≡ m) × HasUsed k m)

  -- the seat has taken slot k, and the parcel from node `from` that lay there
  abbrev pub Takes : ℕ → ℕ → Me (Option P) (List (Entry T P)) → Me (Option P) (List (Entry T P))
      → Type 0
  Takes k from m m' =
      (e : Entry T P) × (m.0 ≡ e ∷ [])
      × ((p : P) × (m' ≡ (taking k from p e ∷ [], (k, Some p) ∷ m.1)))

  -- the seat has taken slot k, and the parcel p still lies there
  abbrev pub HasTaken : ℕ → ℕ → Entry T P → P → Me (Option P) (List (Entry T P)) → Type 0
  HasTaken k from e p m = m ≡ (taking k from p e ∷ [], (k, Some p) ∷ [])

  -- if `from` is the seat's own node (the link leads from it to itself), all that it placed in slot
  -- k was taken
  abbrev pub HasEmptied : ℕ → ℕ → Me (Option P) (List (Entry T P)) → Type 0
  HasEmptied k from m =
      (e : Entry T P) × (m.0 ≡ e ∷ []) × (from ≡ e.node → of k e.placed ≡ of k e.taken)

  -- one read of the word of slot k, which found this word
  abbrev pub Sees : ℕ → ℕ → Me (Option P) (List (Entry T P)) → ℕ → Me (Option P) (List (Entry T P))
      → Type 0
  Sees k from m found m' = (m' ≡ m) × (found ≢ FILLED → HasEmptied k from m)

  -- one try to take slot k with its parcel, which found this word
  abbrev pub TriesTake : ℕ → ℕ → Me (Option P) (List (Entry T P)) → ℕ
      → Me (Option P) (List (Entry T P)) → Type 0
  TriesTake k from m found m' =
      (found ≡ FILLED → Takes k from m m') × (found ≢ FILLED → (m' ≡ m) × HasEmptied k from m)

  abbrev pub placed_view : ℕ → P → List (Entry T P) → List (Entry T P)
  placed_view k p [] = []
  placed_view k p (e ∷ v) = placing k p e ∷ []

  abbrev pub released_view : Option (ℕ × P) → List (Entry T P) → List (Entry T P)
  released_view hand [] = []
  released_view hand (e ∷ v) = releasing hand e ∷ []

  -- the seat has claimed slot k, which is empty, and its node sent this parcel to node `to`, so
  -- that it may be put there
  abbrev pub IsFilling : Me (Option P) (List (Entry T P)) → ℕ → ℕ → ℕ → P → Type 0
  IsFilling m k node to p =
      (e : Entry T P) × (m ≡ (e ∷ [], (k, None) ∷ [])) × (e.node ≡ node) × (e.stage ≡ Writing k)
      × IsIn (to, p) e.sent

  -- the seat has taken slot k, in which x lies: a parcel or nothing
  abbrev pub IsHolding : Me (Option P) (List (Entry T P)) → ℕ → ℕ → Option P → Type 0
  IsHolding m k node x =
      (e : Entry T P) × (m ≡ (e ∷ [], (k, x) ∷ [])) × (e.node ≡ node) × (e.stage ≡ Reading k)

  abbrev pub KeepsHand : List (Entry T P) → Option (ℕ × P) → Type 0
  KeepsHand v hand = (e : Entry T P) → v ≡ e ∷ [] → (hand ≡ e.hand) ⊎ (hand ≡ None)
