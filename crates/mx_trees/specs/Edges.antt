-- A tree by the list of its edges, and the faults of a list that is no tree.
use Rattle.std.specs.Prelude.{ℕ, ◌+◌, ◌<◌, ◌≤◌, ◌≡◌, ◌≢◌, ◌⊎◌, ◌↔◌, List, length, slice_index_or}
use Rattle.mx_stamps.specs.declared.limits.TheConstants.{MAX_NODES}
use Rattle.mx_stamps.specs.Lists.{IsIn}
use Rattle.mx_trees.specs.declared.fault.TreeFault.{TreeFault}
use Rattle.mx_trees.specs.declared.fault.TreeFault.TheVariants.{NoNodes, TooMany, BadEdge, WrongCount, NotJoined, BadHolder}
use Rattle.mx_trees.specs.Paths.{IsJoined}
use Rattle.mx_trees.specs.Tree.{Rooted, IsNear, IsSquare, toward_of}

-- the edge between nodes i and j is listed, from one end or the other
abbrev pub IsLinked : List (ℕ × ℕ) → ℕ → ℕ → Type 0
IsLinked edges i j = IsIn (i, j) edges ⊎ IsIn (j, i) edges

-- the edge joins two different nodes, of n nodes
abbrev pub IsEdge : ℕ → ℕ × ℕ → Type 0
IsEdge n e = (e.0 < n) × (e.1 < n) × (e.0 ≢ e.1)

-- the first k edges of the list join two different nodes each, of n nodes
abbrev pub AreEdges : ℕ → ℕ → List (ℕ × ℕ) → Type 0
AreEdges n k edges = (m : ℕ) → m < k → IsEdge n (slice_index_or edges m (0, 0))

-- the first k nodes have a path to node 0
abbrev pub AreJoined : ℕ → List (ℕ × ℕ) → Type 0
AreJoined k edges = (i : ℕ) → i < k → IsJoined (IsLinked edges) i 0

-- 1 to 21 nodes, n - 1 edges between different nodes, a path from every node to node 0
pub record IsTree (n : ℕ) (edges : List (ℕ × ℕ)) : Type 0 where
  pub some : 0 < n
  pub few : n ≤ MAX_NODES
  pub linked : AreEdges n (length edges) edges
  pub count : length edges + 1 ≡ n
  pub joined : AreJoined n edges

-- the rooted tree of n nodes, these edges and this holder. Its tables have places for 21 nodes;
-- from a place that is no node of the tree, the holder is next
pub record IsTreeOf (n : ℕ) (edges : List (ℕ × ℕ)) (holder : ℕ) (t : Rooted) : Type 0 where
  pub count : t.count ≡ n
  pub root : t.holder ≡ holder
  pub near : (i j : ℕ) → IsNear t i j ↔ IsLinked edges i j
  pub square : IsSquare t.rows
  pub long : length t.next ≡ MAX_NODES
  pub beyond : (i : ℕ) → n ≤ i → i < MAX_NODES → toward_of t i ≡ holder

-- edge k is the first with an end that is no node, or with equal ends
abbrev pub IsFirstBadEdge : ℕ → List (ℕ × ℕ) → ℕ → Type 0
IsFirstBadEdge n edges k =
    (k < length edges) × AreEdges n k edges × (IsEdge n (slice_index_or edges k (0, 0)) → ⊥)

-- node i is the first without a path to node 0
abbrev pub IsFirstUnjoined : ℕ → List (ℕ × ℕ) → ℕ → Type 0
IsFirstUnjoined n edges i =
    (i < n) × AreJoined i edges × (IsJoined (IsLinked edges) i 0 → ⊥)

-- there are 1 to 21 nodes, and each edge joins two different ones of them
abbrev pub AreEdgesOf : ℕ → List (ℕ × ℕ) → Type 0
AreEdgesOf n edges = (0 < n) × (n ≤ MAX_NODES) × AreEdges n (length edges) edges

-- the fault is the first, in the order of `TreeFault`, that these nodes, edges and holder have
abbrev pub IsFirstFault : ℕ → List (ℕ × ℕ) → ℕ → TreeFault → Type 0
IsFirstFault n edges holder NoNodes = n ≡ 0
IsFirstFault n edges holder TooMany = MAX_NODES < n
IsFirstFault n edges holder (BadEdge k) = (0 < n) × (n ≤ MAX_NODES) × IsFirstBadEdge n edges k
IsFirstFault n edges holder WrongCount = AreEdgesOf n edges × (length edges + 1 ≢ n)
IsFirstFault n edges holder (NotJoined i) =
    AreEdgesOf n edges × (length edges + 1 ≡ n) × IsFirstUnjoined n edges i
IsFirstFault n edges holder BadHolder = IsTree n edges × (n ≤ holder)
