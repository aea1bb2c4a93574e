-- What a node knows, as a list of facts.
use Rattle.std.specs.Prelude.{ℕ, List, [], ◌∷◌}
use Rattle.mx_knowledge.specs.declared.fact.Fact.{Fact}
use Rattle.mx_knowledge.specs.declared.fact.Item.{Item}

-- a fact: its name, and its values in order
pub record Known : Type 0 where
  pub name : List ℕ
  pub items : List Item

abbrev pub known : List ℕ → List Item → Known
known name items = record { name = name; items = items }

abbrev pub fact_of : Fact → Known
fact_of f = known f.name.now f.items.items

-- a list of one fact, with these values
abbrev pub fact : List ℕ → List Item → List Known
fact name items = known name items ∷ []

-- a list of one fact, without values
abbrev pub word : List ℕ → List Known
word name = fact name []

-- a list of one fact, with one value
abbrev pub one : List ℕ → Item → List Known
one name item = fact name (item ∷ [])

-- a list of one fact with these values, or no fact if there are no values
abbrev pub listed : List ℕ → List Item → List Known
listed name [] = []
listed name (item ∷ items) = fact name (item ∷ items)
