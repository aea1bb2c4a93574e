-- The shape that a plan describes, and the outcome of making it.
use Rattle.std.specs.Prelude.{◌≡◌, ◌*◌, ℕ, List, Result, MatchResult}
use Rattle.mx_quorums.specs.Lists.{AreMeeting, IsFamilyOf, IsFirstFault}
use Rattle.mx_quorums.specs.Shapes.{IsGrid, IsPlaneSize, IsPlane}
use Rattle.mx_quorums.specs.declared.fault.QuorumFault.TheVariants.{NoPlane}
use Rattle.mx_trees.specs.Edges.{IsTree, IsTreeOf, IsFirstFault as IsFirstTreeFault}
use Rattle.mx_plan.specs.declared.shape.Shape.{Shape}
use Rattle.mx_plan.specs.declared.shape.Shape.TheVariants.{Ricart, Maekawa, Raymond}
use Rattle.mx_plan.specs.declared.faults.ShapeFault.{ShapeFault}
use Rattle.mx_plan.specs.declared.faults.ShapeFault.TheVariants.{Quorum, Tree}
use Rattle.mx_plan.specs.Fields.{IsShape}

-- a shape as a plan describes it: each node asks all others; or there are arbiter sets, by a plane,
-- by a grid of rows and columns, or listed; or there is a tree, by its edges and its holder
pub data PlannedShape : Type 0 where
  all_others : PlannedShape
  plane : PlannedShape
  grid : ℕ → ℕ → PlannedShape
  listed : List (List ℕ) → PlannedShape
  tree : List (ℕ × ℕ) → ℕ → PlannedShape

-- the shape is the described one, for n nodes
abbrev pub IsShapeOf : ℕ → PlannedShape → Shape → Type 0
IsShapeOf n all_others (Ricart count) = count ≡ n
IsShapeOf n plane (Maekawa family) = IsPlaneSize n × IsPlane n family
IsShapeOf n (grid rows cols) (Maekawa family) = (rows * cols ≡ n) × IsGrid rows cols family
IsShapeOf n (listed sets) (Maekawa family) = AreMeeting sets × IsFamilyOf sets family
IsShapeOf n (tree edges holder) (Raymond rooted) = IsTree n edges × IsTreeOf n edges holder rooted
IsShapeOf n _ _ = ⊥

-- why n nodes have no such shape: the first broken rule
abbrev pub IsRefusalOf : ℕ → PlannedShape → ShapeFault → Type 0
IsRefusalOf n plane (Quorum fault) = (IsPlaneSize n → ⊥) × (fault ≡ NoPlane n)
IsRefusalOf n (listed sets) (Quorum fault) = IsFirstFault sets fault
IsRefusalOf n (tree edges holder) (Tree fault) = IsFirstTreeFault n edges holder fault
IsRefusalOf n _ _ = ⊥

-- the result is the described shape, which is a shape of n nodes; or it is why there is none
abbrev pub IsShaped : ℕ → PlannedShape → Result Shape ShapeFault → Type 0
IsShaped n shape_planned r =
    MatchResult r
    (λ shape. IsShapeOf n shape_planned shape × IsShape n shape)
    (λ fault. IsRefusalOf n shape_planned fault)
