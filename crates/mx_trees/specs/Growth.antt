-- A tree that grows from its root along the edges of a graph, one node at a time.
use Rattle.std.specs.Prelude.{ℕ, ◌+◌, ◌<◌, ◌≤◌, ◌≡◌, ◌≢◌, Bool, true, false, ◌&&◌, ◌||◌, nat_eq, List, ◌∷◌, length, slice_index_or, slice_set}
use Rattle.std.specs.List.{count_by}
use Rattle.mx_stamps.specs.declared.limits.TheConstants.{MAX_NODES}
use Rattle.mx_stamps.specs.Lists.{IsIn}
use Rattle.mx_trees.specs.declared.growth.Growth.{Growth}
use Rattle.mx_trees.specs.Paths.{IsPath}
use Rattle.mx_trees.specs.Edges.{IsLinked}

abbrev pub is_reached : Growth → ℕ → Bool
is_reached g i = slice_index_or g.reached i false

-- the node from which the tree has reached node i
abbrev pub next_of : Growth → ℕ → ℕ
next_of g i = slice_index_or g.next i 0

-- whether the tree has reached node i from node j
abbrev pub is_step : Growth → ℕ → ℕ → Bool
is_step g i j = is_reached g i && nat_eq (next_of g i) j

-- whether the tree has grown along this edge
abbrev pub is_branch : Growth → ℕ × ℕ → Bool
is_branch g e = is_step g e.0 e.1 || is_step g e.1 e.0

abbrev pub AreReached : Growth → List ℕ → Type 0
AreReached g is = (k : ℕ) → IsIn k is → is_reached g k ≡ true

-- the root is reached. From each other reached node a path of reached nodes leads to the root, and
-- `next` is the second node of this path; from a node that is not reached, `next` is the root.
-- Besides the root, at most one node is reached for each edge that the tree has grown along
pub record IsGrown (edges : List (ℕ × ℕ)) (root : ℕ) (g : Growth) : Type 0 where
  pub size : length g.reached ≡ MAX_NODES
  pub sizes : length g.next ≡ MAX_NODES
  pub begun : is_reached g root ≡ true
  pub home : next_of g root ≡ root
  pub way : (i : ℕ) → is_reached g i ≡ true → i ≢ root → (rest : List ℕ)
      × IsPath (IsLinked edges) i (next_of g i ∷ rest) root × AreReached g (next_of g i ∷ rest)
  pub rest : (i : ℕ) → i < MAX_NODES → is_reached g i ≡ false → next_of g i ≡ root
  pub counted : count_by (λ r. r) g.reached ≤ count_by (λ e. is_branch g e) edges + 1

-- no edge leads out of the tree
abbrev pub IsClosed : List (ℕ × ℕ) → Growth → Type 0
IsClosed edges g = (i j : ℕ) → IsLinked edges i j → is_reached g i ≡ is_reached g j

-- an edge leads out of the tree, from node near, which is reached, to node far, which is not
pub record IsCrossing (edges : List (ℕ × ℕ)) (g : Growth) (near far : ℕ) : Type 0 where
  pub linked : IsLinked edges far near
  pub inside : is_reached g near ≡ true
  pub outside : is_reached g far ≡ false
  pub node : far < MAX_NODES

-- the tree with one more node, far, reached from node near
abbrev pub with_node : Growth → ℕ → ℕ → Growth
with_node g near far = record {
  reached = slice_set g.reached far true;
  next = slice_set g.next far near;
}
