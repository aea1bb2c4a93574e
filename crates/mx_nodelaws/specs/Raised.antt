-- Numbers in a node's state that only rise, and whether they have reached n.
use Rattle.std.specs.Prelude.{ℕ, ◌≤◌}
use Rattle.mx_nodelaws.specs.World.{World, IsNode}

-- the `number` of some node is at least n
abbrev pub IsReachedBy : {S M : Type 0} → (S → ℕ) → World S M → ℕ → Type 0
IsReachedBy {S} number w n = (j : ℕ) × (t : S) × (IsNode w j t) × (n ≤ number t)

-- the `number` of node j, if there is such a node, is at least n
abbrev pub HasComeTo : {S M : Type 0} → (S → ℕ) → World S M → ℕ → ℕ → Type 0
HasComeTo {S} number w j n = (t : S) → IsNode w j t → n ≤ number t
