-- The names of nodes and registers that a line may use.
use Rattle.std.specs.Prelude.{List, map}
use Rattle.std.specs.Borrow.{Bor}
use Rattle.mx_plan.specs.Text.{Text}
use Rattle.mx_plan.specs.Fields.{Fields}

-- the names of nodes and registers, in order
pub record Known : Type 0 where
  pub nodes : List Text
  pub registers : List Text

abbrev pub known_of : Fields → Known
known_of p = record { nodes = p.nodes; registers = p.registers }

-- the texts that the references point to
abbrev pub texts_of : List (Bor Text) → List Text
texts_of = map (λ text. text.now)
