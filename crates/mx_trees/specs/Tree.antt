-- A rooted tree: the shape of Raymond's algorithm (Raymond 1989).
use Rattle.std.specs.Prelude.{ℕ, ◌<◌, ◌≤◌, ◌≡◌, ◌≢◌, ◌⊎◌, Bool, true, false, List, [], ◌∷◌, length, slice_index_or}
use Rattle.mx_stamps.specs.declared.limits.TheConstants.{MAX_NODES}
use Rattle.mx_trees.specs.Paths.{IsPath}

-- the number of nodes; the holder, which is the root; for each node a row that marks its
-- neighbours; and for each node the next one towards the holder
pub record Rooted : Type 0 where
  pub count : ℕ
  pub holder : ℕ
  pub rows : List (List Bool)
  pub next : List ℕ

-- the next node from i towards the holder
abbrev pub toward_of : Rooted → ℕ → ℕ
toward_of t i = slice_index_or t.next i 0

abbrev pub are_neighbours : Rooted → ℕ → ℕ → Bool
are_neighbours t i j = slice_index_or (slice_index_or t.rows i []) j false

-- nodes i and j are neighbours
abbrev pub IsNear : Rooted → ℕ → ℕ → Type 0
IsNear t i j = are_neighbours t i j ≡ true

-- 21 rows of 21 places
pub record IsSquare (rows : List (List Bool)) : Type 0 where
  pub tall : length rows ≡ MAX_NODES
  pub wide : (i : ℕ) → i < MAX_NODES → length (slice_index_or rows i []) ≡ MAX_NODES

-- j is the second node of a path from i to the holder; or i and j both are the holder
abbrev pub IsToward : Rooted → ℕ → ℕ → Type 0
IsToward t i j =
    ((i ≡ t.holder) × (j ≡ i)) ⊎ ((rest : List ℕ) × IsPath (IsNear t) i (j ∷ rest) t.holder)

-- a rooted tree: neighbours are two different nodes, and each is a neighbour of the other. From
-- each node exactly one node is next on a path to the holder. Of two neighbours one is next from
-- the other
pub record IsRooted (t : Rooted) : Type 0 where
  pub some : 0 < t.count
  pub few : t.count ≤ MAX_NODES
  pub holder : t.holder < t.count
  pub nodes : (i j : ℕ) → IsNear t i j → (i < t.count) × (j < t.count) × (i ≢ j)
  pub both : (i j : ℕ) → IsNear t i j → IsNear t j i
  pub toward_node : (i : ℕ) → i < t.count → toward_of t i < t.count
  pub toward_holder : toward_of t t.holder ≡ t.holder
  pub toward_other : (i : ℕ) → i < t.count → i ≢ t.holder → toward_of t i ≢ i
  pub toward_path : (i : ℕ) → i < t.count → IsToward t i (toward_of t i)
  pub toward_only : (i k : ℕ) → i < t.count → IsToward t i k → k ≡ toward_of t i
  pub edge : (i j : ℕ) → IsNear t i j → (toward_of t i ≡ j) ⊎ (toward_of t j ≡ i)
