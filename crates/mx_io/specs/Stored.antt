-- What a store was given.
use Rattle.std.specs.Prelude.{◌≡◌, ℕ, List, ◌++◌, Option, Some, None, ⊤}

-- the names that were stored, in order, each with its bytes, if they are known
abbrev pub Stored : Type 0
Stored = Option (List (List ℕ × List ℕ))

-- these were stored after the old ones, in this order, if the old ones are known
abbrev pub Stores : Stored → Stored → List (List ℕ × List ℕ) → Type 0
Stores None new entries = ⊤
Stores (Some old) None entries = ⊥
Stores (Some old) (Some new) entries = new ≡ old ++ entries
