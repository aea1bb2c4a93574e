-- Walks and paths in a graph.
use Rattle.std.proofs.Common.{ℕ, ◌≡◌, ◌≢◌, ◌⊎◌, inl, inr, List, [], ◌∷◌, sym, ◌∙◌, subst}
use Rattle.mx_trees.specs.Paths.{IsWalk, IsOnce, IsPath}

-- a walk in a graph is a walk in a larger one
pub walk_in : (N M : ℕ → ℕ → Type 0) → ((i j : ℕ) → N i j → M i j) → (i : ℕ) (rest : List ℕ) (j : ℕ) → IsWalk N i rest j → IsWalk M i rest j
walk_in N M f i [] j w = w
walk_in N M f i (k ∷ ks) j w = (f i k w.0, walk_in N M f k ks j w.1)

pub path_in : (N M : ℕ → ℕ → Type 0) → ((i j : ℕ) → N i j → M i j) → (i : ℕ) (rest : List ℕ) (j : ℕ) → IsPath N i rest j → IsPath M i rest j
path_in N M f i rest j p = record { walk = walk_in N M f i rest j p.walk; once = p.once }

-- what holds of a node and passes to each neighbour holds all along a walk
pub along : (N : ℕ → ℕ → Type 0) (P : ℕ → Type 0) → ((i j : ℕ) → N i j → P i → P j) → (i : ℕ) (rest : List ℕ) (j : ℕ) → IsWalk N i rest j → P i → P j
along N P f i [] j w h = subst P w h
along N P f i (k ∷ ks) j w h = along N P f k ks j w.1 (f i k w.0 h)

pub back_along : (N : ℕ → ℕ → Type 0) (P : ℕ → Type 0) → ((i j : ℕ) → N i j → P j → P i) → (i : ℕ) (rest : List ℕ) (j : ℕ) → IsWalk N i rest j → P j → P i
back_along N P f i [] j w h = subst P (sym w) h
back_along N P f i (k ∷ ks) j w h = f i k w.0 (back_along N P f k ks j w.1 h)

-- each edge of a graph is a step to the next node, from one of its ends
abbrev pub ByNext : (ℕ → ℕ → Type 0) → (ℕ → ℕ) → ℕ → Type 0
ByNext N next root = (i j : ℕ) → N i j → ((i ≢ root) × (next i ≡ j)) ⊎ ((j ≢ root) × (next j ≡ i))

-- a path that steps away from the root does not end there
pub no_return : (N : ℕ → ℕ → Type 0) (next : ℕ → ℕ) (root : ℕ) → ByNext N next root → (x y : ℕ) (rest : List ℕ) → next y ≡ x → y ≢ root → IsWalk N y rest root → IsOnce (x ∷ y ∷ rest) → ⊥
no_return N next root by x y [] e ne w once = ne w
no_return N next root by x y (z ∷ zs) e ne w once = elim (by y z w.0) [
  | inl s ↦ once.0 (inr (inl (sym e ∙ s.1)))
  | inr s ↦ no_return N next root by y z zs s.1 s.0 w.1 once.1
]

-- the second node of a path to the root is the next one
pub second_is_next : (N : ℕ → ℕ → Type 0) (next : ℕ → ℕ) (root : ℕ) → ByNext N next root → (i j : ℕ) (rest : List ℕ) → IsPath N i (j ∷ rest) root → j ≡ next i
second_is_next N next root by i j rest p = elim (by i j p.walk.0) [
  | inl s ↦ sym s.1
  | inr s ↦ absurd (no_return N next root by i j rest s.1 s.0 p.walk.1 p.once)
]
