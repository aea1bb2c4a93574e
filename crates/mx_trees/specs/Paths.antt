-- Walks and paths in a graph. `Near i j` says that nodes i and j are neighbours in it.
use Rattle.std.specs.Prelude.{ℕ, ◌≡◌, List, [], ◌∷◌}
use Rattle.mx_stamps.specs.Lists.{IsIn}

-- i and then the listed nodes are a walk to j: each is a neighbour of the next, and the last is j
abbrev pub IsWalk : (ℕ → ℕ → Type 0) → ℕ → List ℕ → ℕ → Type 0
IsWalk Near i [] j = i ≡ j
IsWalk Near i (k ∷ ks) j = Near i k × IsWalk Near k ks j

-- no node is in the list twice
abbrev pub IsOnce : List ℕ → Type 0
IsOnce [] = Unit {0}
IsOnce (i ∷ is) = (IsIn i is → ⊥) × IsOnce is

-- a path from i to j: a walk that visits no node twice
pub record IsPath (Near : ℕ → ℕ → Type 0) (i : ℕ) (rest : List ℕ) (j : ℕ) : Type 0 where
  pub walk : IsWalk Near i rest j
  pub once : IsOnce (i ∷ rest)

-- some path leads from i to j
abbrev pub IsJoined : (ℕ → ℕ → Type 0) → ℕ → ℕ → Type 0
IsJoined Near i j = (rest : List ℕ) × IsPath Near i rest j
