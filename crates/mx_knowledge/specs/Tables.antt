-- The values in a table with an entry for each node.
use Rattle.std.specs.Prelude.{ℕ, zero, suc, Bool, List, [], ◌∷◌, ◌++◌, Option, Some, None, false, if◌then◌else◌, slice_index_or}
use Rattle.mx_stamps.specs.declared.stamp.Stamp.{Stamp}
use Rattle.mx_knowledge.specs.declared.fact.Item.{Item}
use Rattle.mx_knowledge.specs.declared.fact.Item.TheVariants as item

-- a list of the value, or the empty list if there is none
abbrev pub if_some : Option Item → List Item
if_some None = []
if_some (Some i) = i ∷ []

-- the values of f for the nodes below n, in the order of the nodes
abbrev pub below : (ℕ → Option Item) → ℕ → List Item
below f zero = []
below f (suc n) = below f n ++ if_some (f n)

-- node j, if the table marks it
abbrev pub node_if : Bool → ℕ → Option Item
node_if marked j = if marked then Some (item.Node j) else None

abbrev pub node_at : List Bool → ℕ → Option Item
node_at marks j = node_if (slice_index_or marks j false) j

abbrev pub stamp_of : Option Stamp → Option Item
stamp_of None = None
stamp_of (Some stamp) = Some (item.Stamp stamp)

-- the stamp that the table has at node j
abbrev pub stamp_at : List (Option Stamp) → ℕ → Option Item
stamp_at stamps j = stamp_of (slice_index_or stamps j None)

abbrev pub number_of : ℕ → Option ℕ → Option Item
number_of j None = None
number_of j (Some number) = Some (item.Numbered j number)

-- node j with the number that the table has there
abbrev pub number_at : List (Option ℕ) → ℕ → Option Item
number_at numbers j = number_of j (slice_index_or numbers j None)
