-- What holds for a cluster of one node.
use Rattle.std.specs.Prelude.{ℕ, ◌≡◌, ◌<◌, length}
use Rattle.mx_nodelaws.specs.World.{World, WasSent}
use Rattle.mx_nodelaws.specs.Bounds.{IsU64, BoundedPhase}
use Rattle.mx_nodelaws.specs.Rows.{IsGoodWorld}
use Rattle.example_algorithm.specs.Node.{Node}
use Rattle.example_algorithm.specs.declared.solo.One.{One}

abbrev pub IsOne : One → Type 0
IsOne shape = Unit {0}

-- there is one node, and nothing was sent
pub record IsSafe (w : World Node ℕ) : Type 0 where
  pub alone : length w.nodes ≡ 1
  pub silent : (a b m : ℕ) → WasSent w a b m → ⊥

-- the numbers in the state of a node are u64 values, and its name is one of n nodes
pub record BoundedNode (n : ℕ) (s : Node) : Type 0 where
  pub me : s.me < n
  pub limit : IsU64 s.limit
  pub phase : BoundedPhase s.phase
  pub mine : IsU64 s.mine

abbrev pub BoundedLetter : ℕ → ℕ → Type 0
BoundedLetter n letter = Unit {0}

abbrev pub IsGood : World Node ℕ → Type 0
IsGood w = IsGoodWorld IsSafe BoundedNode BoundedLetter w
