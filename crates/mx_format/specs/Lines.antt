use Rattle.std.specs.Prelude.{ℕ, ◌+◌, List, [], ◌∷◌, ◌++◌, length}
use Rattle.std.specs.List.{range_with_len}
use Rattle.mx_plan.specs.Text.{Text}
use Rattle.mx_plan.specs.Fields.{Fields}

-- the texts of all items of a list, one after another
abbrev pub each_text : {X : Type 0} → (X → Text) → List X → Text
each_text f [] = []
each_text f (x ∷ xs) = f x ++ each_text f xs

-- the same, for texts that depend on the item's index too. The first item has index k
abbrev pub texts_from : {X : Type 0} → (ℕ → X → Text) → ℕ → List X → Text
texts_from f k [] = []
texts_from f k (x ∷ xs) = f k x ++ texts_from f (k + 1) xs

-- the texts of all items of a list, with a text between them
abbrev pub joined : {X : Type 0} → Text → (X → Text) → List X → Text
joined between f [] = []
joined between f (x ∷ xs) = f x ++ each_text (λ y. between ++ f y) xs

-- the texts of all nodes of a plan, in order
abbrev pub each_node : (ℕ → Text) → Fields → Text
each_node f p = each_text f (range_with_len 0 (length p.nodes))
