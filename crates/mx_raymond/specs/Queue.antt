-- The queue of a node: names of nodes, each once, the oldest first.
use Rattle.std.specs.Prelude.{ℕ, ◌<◌, ◌≡◌, Bool, true, false, not, List, [], ◌∷◌, ◌++◌, Option, Some, None, filter, map, nat_eq, if◌then◌else◌}
use Rattle.std.specs.List.{list_any, IsDistinct}
use Rattle.mx_stamps.specs.declared.limits.TheConstants.{MAX_NODES}
use Rattle.mx_knowledge.specs.declared.fact.Item.{Item}
use Rattle.mx_knowledge.specs.declared.fact.Item.TheVariants as item

abbrev pub is_queued : List ℕ → ℕ → Bool
is_queued queue node = list_any (nat_eq node) queue

abbrev pub is_empty : List ℕ → Bool
is_empty [] = true
is_empty (name ∷ rest) = false

-- the oldest name, if there is one
abbrev pub head_of : List ℕ → Option ℕ
head_of [] = None
head_of (name ∷ rest) = Some name

-- the names after the oldest
abbrev pub rest_of : List ℕ → List ℕ
rest_of [] = []
rest_of (name ∷ rest) = rest

-- the queue with this name at its end, unless it is in the queue
abbrev pub joined : List ℕ → ℕ → List ℕ
joined queue node = if is_queued queue node then queue else queue ++ node ∷ []

-- the queue without this name
abbrev pub without : List ℕ → ℕ → List ℕ
without queue node = filter (λ name. not (nat_eq name node)) queue

-- each name is in the queue at most once, and is below 21
pub record IsQueue (queue : List ℕ) : Type 0 where
  pub once : IsDistinct nat_eq queue
  pub nodes : (node : ℕ) → is_queued queue node ≡ true → node < MAX_NODES

-- the names in the queue, as the values of a fact
abbrev pub queue_items : List ℕ → List Item
queue_items = map (λ name. item.Node name)
