-- The parts of a plan.
use Rattle.std.specs.Prelude.{◌≡◌, ◌≤◌, ℕ, List, Option, length, position}
use Rattle.std.specs.Str.{bytes_eq}
use Rattle.mx_stamps.specs.declared.limits.TheConstants.{MAX_NODES, MAX_REGISTERS, MAX_SECTIONS}
use Rattle.mx_quorums.specs.Family.{IsMeeting, IsWithin}
use Rattle.mx_trees.specs.Tree.{IsRooted}
use Rattle.mx_plan.specs.Text.{Text, AreNames}
use Rattle.mx_plan.specs.declared.shape.Shape.{Shape}
use Rattle.mx_plan.specs.declared.shape.Shape.TheVariants.{Ricart, Maekawa, Raymond}

-- a plan: the names of nodes and registers, in order; the last section number; the origin of
-- stamps; the shape
pub record Fields : Type 0 where
  pub nodes : List Text
  pub registers : List Text
  pub sections : ℕ
  pub origin : ℕ
  pub shape : Shape

-- a shape over exactly n nodes: their number, a family of meeting sets, or a rooted tree
abbrev pub IsShape : ℕ → Shape → Type 0
IsShape n (Ricart count) = count ≡ n
IsShape n (Maekawa family) = IsMeeting family × IsWithin family × (family.count ≡ n)
IsShape n (Raymond tree) = IsRooted tree × (tree.count ≡ n)

-- what holds for every plan
pub record IsPlan (p : Fields) : Type 0 where
  pub nodes : AreNames MAX_NODES p.nodes
  pub registers : AreNames MAX_REGISTERS p.registers
  pub some_sections : 1 ≤ p.sections
  pub few_sections : p.sections ≤ MAX_SECTIONS
  pub shape : IsShape (length p.nodes) p.shape

-- the number of a node's name
abbrev pub node_of : Fields → Text → Option ℕ
node_of p name = position (bytes_eq name) p.nodes

-- the number of a register's name
abbrev pub register_of : Fields → Text → Option ℕ
register_of p name = position (bytes_eq name) p.registers
