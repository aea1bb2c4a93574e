-- The plan in a text.
use Rattle.std.specs.Prelude.{◌≡◌, ◌⊎◌, ◌&&◌, ℕ, List, not, length, nat_le, codes, if◌then◌else◌, Option, Some, None, Result, Ok, Err}
use Rattle.std.specs.Option.{option_map_or}
use Rattle.std.specs.Str.{bytes_eq}
use Rattle.serde_json.specs.Data.{Data}
use Rattle.serde_json.specs.Find.{get, as_str}
use Rattle.mx_stamps.specs.declared.limits.TheConstants.{MAX_NODES, MAX_REGISTERS, MAX_SECTIONS}
use Rattle.mx_plan.specs.Text.{Text}
use Rattle.mx_plan.specs.Fields.{Fields, IsShape}
use Rattle.mx_plan.specs.Shapes.{PlannedShape, all_others, tree, IsShapeOf, IsRefusalOf}
use Rattle.mx_plan.specs.Values.{and_then, of_text, is_object, number_of}
use Rattle.mx_plan.specs.NameLists.{names_of}
use Rattle.mx_plan.specs.QuorumKeys.{quorums_of}
use Rattle.mx_plan.specs.TreeKeys.{edges_of, holder_of}
use Rattle.mx_plan.specs.declared.place.Place.{Place}
use Rattle.mx_plan.specs.declared.place.Place.TheVariants as place
use Rattle.mx_plan.specs.declared.shape.Shape.{Shape}
use Rattle.mx_plan.specs.declared.algorithm.Algorithm.{Algorithm}
use Rattle.mx_plan.specs.declared.algorithm.Algorithm.TheVariants.{Ricart, Maekawa, Raymond}
use Rattle.mx_plan.specs.declared.needs.Needs.{Needs}
use Rattle.mx_plan.specs.declared.needs.Needs.TheVariants.{All, Names}
use Rattle.mx_plan.specs.declared.faults.PlanFault.{PlanFault}
use Rattle.mx_plan.specs.declared.faults.PlanFault.TheVariants.{NotPlan, BadShape, Memory}

-- ---- the keys

-- a missing key: it counts as this if a plan needs only names, and else is a fault
abbrev pub missing : {T : Type 0} → Needs → Place → T → Result T PlanFault
missing All p t = Err (NotPlan p)
missing Names p t = Ok t

abbrev pub algorithm_named : Text → Result Algorithm PlanFault
algorithm_named word =
    if bytes_eq word (codes "ricart") then Ok Ricart
    else if bytes_eq word (codes "maekawa") then Ok Maekawa
    else if bytes_eq word (codes "raymond") then Ok Raymond
    else Err (NotPlan place.Algorithm)

-- the algorithm in the value of a key
abbrev pub algorithm_of : Needs → Option Data → Result Algorithm PlanFault
algorithm_of needs None = missing needs place.Algorithm Ricart
algorithm_of needs (Some d) =
    option_map_or algorithm_named (as_str d) (Err (NotPlan place.Algorithm))

-- the number, if it is from 1 to the greatest section number
abbrev pub in_range : Place → Option ℕ → Result ℕ PlanFault
in_range p None = Err (NotPlan p)
in_range p (Some n) = if nat_le 1 n && nat_le n MAX_SECTIONS then Ok n else Err (NotPlan p)

-- the last section number in the value of a key
abbrev pub sections_of : Needs → Option Data → Result ℕ PlanFault
sections_of needs None = missing needs place.Sections MAX_SECTIONS
sections_of needs (Some d) = in_range place.Sections (number_of (Some d))

-- the origin in the value of a key: 0 if the key is absent
abbrev pub origin_of : Option Data → Result ℕ PlanFault
origin_of None = Ok 0
origin_of (Some d) = option_map_or (λ n. Ok n) (number_of (Some d)) (Err (NotPlan place.Origin))

-- the tree in the keys `edges` and `holder`
abbrev pub tree_of : List Text → Data → Result PlannedShape PlanFault
tree_of nodes d =
    and_then (edges_of nodes (get (codes "edges") d))
    (λ edges. and_then (holder_of nodes (get (codes "holder") d))
    (λ holder. Ok (tree edges holder)))

-- the shape that a plan for an algorithm describes
abbrev pub planned_of : Algorithm → List Text → Data → Result PlannedShape PlanFault
planned_of Ricart nodes d = Ok all_others
planned_of Maekawa nodes d = quorums_of nodes (get (codes "quorums") d)
planned_of Raymond nodes d = tree_of nodes d

-- ---- whole plans

-- a plan as a text describes it, with the description of its shape
pub record Draft : Type 0 where
  pub nodes : List Text
  pub registers : List Text
  pub sections : ℕ
  pub origin : ℕ
  pub shape_planned : PlannedShape

-- the plan that a value describes, or the fault of the first part that is wrong, in this order
abbrev pub draft_of : Needs → Data → Result Draft PlanFault
draft_of needs d =
    if not (is_object d) then Err (NotPlan place.Plan)
    else and_then (algorithm_of needs (get (codes "algorithm") d))
    (λ algorithm. and_then (names_of MAX_NODES place.Nodes (get (codes "nodes") d))
    (λ nodes. and_then (names_of MAX_REGISTERS place.Registers (get (codes "registers") d))
    (λ registers. and_then (sections_of needs (get (codes "sections") d))
    (λ sections. and_then (origin_of (get (codes "origin") d))
    (λ origin. and_then (planned_of algorithm nodes d)
    (λ shape_planned. Ok (record {
      nodes = nodes;
      registers = registers;
      sections = sections;
      origin = origin;
      shape_planned = shape_planned;
    })))))))

-- the plan that a text describes
abbrev pub draft_at : Needs → List ℕ → Result Draft PlanFault
draft_at needs = of_text (draft_of needs)

-- the plan has the described parts
pub record IsPlanOf (draft : Draft) (p : Fields) : Type 0 where
  pub nodes : p.nodes ≡ draft.nodes
  pub registers : p.registers ≡ draft.registers
  pub sections : p.sections ≡ draft.sections
  pub origin : p.origin ≡ draft.origin
  pub shape : IsShapeOf (length draft.nodes) draft.shape_planned p.shape

-- the outcome of reading a text: the plan that it describes; the fault, if it describes none; the
-- first broken rule, if its nodes have no such shape
abbrev pub IsOutcome : Result Draft PlanFault → Result Fields PlanFault → Type 0
IsOutcome (Ok draft) (Ok plan) = IsPlanOf draft plan
IsOutcome (Ok draft) (Err (BadShape fault)) =
    IsRefusalOf (length draft.nodes) draft.shape_planned fault
IsOutcome (Ok draft) (Err _) = ⊥
IsOutcome (Err wanted) (Ok plan) = ⊥
IsOutcome (Err wanted) (Err fault) = fault ≡ wanted

-- the outcome of reading a shape: the described shape, for n nodes; the fault, if none is
-- described; the first broken rule, if n nodes have no such shape
abbrev pub IsShapeOutcome : ℕ → Result PlannedShape PlanFault → Result Shape PlanFault → Type 0
IsShapeOutcome n (Ok shape_planned) (Ok shape) = IsShapeOf n shape_planned shape × IsShape n shape
IsShapeOutcome n (Ok shape_planned) (Err (BadShape fault)) = IsRefusalOf n shape_planned fault
IsShapeOutcome n (Ok shape_planned) (Err _) = ⊥
IsShapeOutcome n (Err wanted) (Ok shape) = ⊥
IsShapeOutcome n (Err wanted) (Err fault) = fault ≡ wanted

-- the same, or memory ran out
abbrev pub ShapeAnswers : ℕ → Result PlannedShape PlanFault → Result Shape PlanFault → Type 0
ShapeAnswers n wanted r = IsShapeOutcome n wanted r ⊎ (r ≡ Err Memory)
