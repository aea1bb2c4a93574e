-- The families of grids and of projective planes.
use Rattle.std.specs.Prelude.{ℕ, ◌+◌, ◌*◌, ◌/◌, ◌%◌, ◌<◌, ◌≡◌, ◌⊎◌, ◌↔◌, true, List, [], ◌∷◌, nat_eq, if◌then◌else◌}
use Rattle.mx_stamps.specs.Lists.{IsIn}
use Rattle.mx_quorums.specs.Family.{Family, has_of}

-- in a grid with this many columns, nodes i and j are in the same row or in the same column
abbrev pub ShareLine : ℕ → ℕ → ℕ → Type 0
ShareLine cols i j = (i / cols ≡ j / cols) ⊎ (i % cols ≡ j % cols)

-- node j, of n nodes, is in the row or in the column of node i
abbrev pub IsInLine : ℕ → ℕ → ℕ → ℕ → Type 0
IsInLine n cols i j = (j < n) × ShareLine cols i j

-- each node's set is its row and its column
pub record IsGrid (rows cols : ℕ) (f : Family) : Type 0 where
  pub count : f.count ≡ rows * cols
  pub sets : (i j : ℕ) →
      (has_of f i j ≡ true) ↔ ((i < rows * cols) × IsInLine (rows * cols) cols i j)

-- a plane of n nodes is known here
abbrev pub IsPlaneSize : ℕ → Type 0
IsPlaneSize n = (n ≡ 7) ⊎ (n ≡ 13) ⊎ (n ≡ 21)

-- for the size n of a plane, each number below n is the difference, modulo n, of two of these
-- numbers (Singer 1938)
abbrev pub difference_set : ℕ → List ℕ
difference_set n =
    if nat_eq n 7 then 0 ∷ 1 ∷ 3 ∷ []
    else (if nat_eq n 13 then 0 ∷ 1 ∷ 3 ∷ 9 ∷ []
    else (if nat_eq n 21 then 0 ∷ 1 ∷ 4 ∷ 14 ∷ 16 ∷ [] else []))

-- node j is node i plus one of the differences, modulo n
abbrev pub IsShifted : ℕ → List ℕ → ℕ → ℕ → Type 0
IsShifted n differences i j = (d : ℕ) × IsIn d differences × ((i + d) % n ≡ j)

-- each node's set has the nodes that are this node plus one of the differences, modulo n
pub record IsPlane (n : ℕ) (f : Family) : Type 0 where
  pub count : f.count ≡ n
  pub sets : (i j : ℕ) → (has_of f i j ≡ true) ↔ ((i < n) × IsShifted n (difference_set n) i j)
