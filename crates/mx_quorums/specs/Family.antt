-- A family of arbiter sets: any two sets meet (Maekawa 1985).
use Rattle.std.specs.Prelude.{ℕ, ◌<◌, ◌≤◌, ◌≡◌, Bool, true, false, List, [], slice_index_or}
use Rattle.mx_stamps.specs.declared.limits.TheConstants.{MAX_NODES}

-- the number of nodes, and for each node a row that marks the nodes of its set
pub record Family : Type 0 where
  pub count : ℕ
  pub rows : List (List Bool)

abbrev pub row_of : Family → ℕ → List Bool
row_of f i = slice_index_or f.rows i []

-- node j is in the set of node i
abbrev pub has_of : Family → ℕ → ℕ → Bool
has_of f i j = slice_index_or (row_of f i) j false

-- there are 1 to 21 nodes; each set contains its own node and only nodes, and any two sets meet
pub record IsMeeting (f : Family) : Type 0 where
  pub some : 0 < f.count
  pub few : f.count ≤ MAX_NODES
  pub own : (i : ℕ) → i < f.count → has_of f i i ≡ true
  pub nodes : (i j : ℕ) → i < f.count → has_of f i j ≡ true → j < f.count
  pub meet : (i j : ℕ) → i < f.count → j < f.count →
      (a : ℕ) × (has_of f i a ≡ true) × (has_of f j a ≡ true)

-- a number that is no node has no members in its set, and is in no set
pub record IsWithin (f : Family) : Type 0 where
  pub owners : (i j : ℕ) → has_of f i j ≡ true → i < f.count
  pub members : (i j : ℕ) → has_of f i j ≡ true → j < f.count

-- node a is in the sets of node i and of node j
abbrev pub IsCommon : Family → ℕ → ℕ → ℕ → Type 0
IsCommon f i j a = (has_of f i a ≡ true) × (has_of f j a ≡ true)
