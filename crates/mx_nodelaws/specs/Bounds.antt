-- The part of Good (see Laws) that is proved without the other parts: every number is a u64 value,
-- and every node named is one of the world.
use Rattle.std.specs.Prelude.{ℕ, ◌<◌, ◌^◌, List, length}
use Rattle.mx_stamps.specs.declared.stamp.Stamp.{Stamp}
use Rattle.mx_stamps.specs.Lists.{IsIn}
use Rattle.mx_nodelaws.specs.World.{World, Done, IsNode, WasSent}
use Rattle.mx_nodelaws.specs.declared.phase.Phase.{Phase}
use Rattle.mx_nodelaws.specs.declared.phase.Phase.TheVariants.{Idle, Waiting, Inside}

-- x is a u64 value
abbrev pub IsU64 : ℕ → Type 0
IsU64 x = x < 2 ^ 64

-- the stamp's number is a u64 value, and its node is one of n nodes
abbrev pub BoundedStamp : ℕ → Stamp → Type 0
BoundedStamp n stamp = IsU64 stamp.number × (stamp.node < n)

-- the section number in the phase, if there is one, is a u64 value
abbrev pub BoundedPhase : Phase → Type 0
BoundedPhase Idle = Unit {0}
BoundedPhase Waiting = Unit {0}
BoundedPhase (Inside n) = IsU64 n

-- each letter goes to one of n nodes, and has the property Letter, which the algorithm defines
abbrev pub AreBounded : {M : Type 0} → (ℕ → M → Type 0) → ℕ → List (ℕ × M) → Type 0
AreBounded {M} Letter n letters =
    (b : ℕ) (m : M) → IsIn {X = ℕ × M} (b, m) letters → (b < n) × Letter n m

-- for n nodes: the state after the step has the property Node, and the letters of the step go to
-- these nodes and have the property Letter
pub record IsBoundedDone {S A M : Type 0} (Node : ℕ → S → Type 0) (Letter : ℕ → M → Type 0) (n : ℕ)
    (done : Done S A M) : Type 0 where
  pub state : Node n done.state
  pub letters : AreBounded Letter n done.letters

-- each node's state has the property Node; each letter ever sent has the property Letter, and goes
-- from a node of the world to a node of the world
pub record IsBoundedWorld {S M : Type 0} (Node : ℕ → S → Type 0) (Letter : ℕ → M → Type 0)
    (w : World S M) : Type 0 where
  pub nodes : (i : ℕ) (s : S) → IsNode w i s → Node (length w.nodes) s
  pub letters : (a b : ℕ) (m : M) → WasSent w a b m →
      (a < length w.nodes) × (b < length w.nodes) × Letter (length w.nodes) m
