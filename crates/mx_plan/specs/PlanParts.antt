-- The parts of a plan: its names, and the rest.
use Rattle.std.specs.Prelude.{◌≡◌, ◌⊎◌, ℕ, List, codes, Result, Ok, Err}
use Rattle.serde_json.specs.Data.{Data}
use Rattle.serde_json.specs.Find.{get}
use Rattle.mx_stamps.specs.declared.limits.TheConstants.{MAX_NODES, MAX_REGISTERS}
use Rattle.mx_plan.specs.Text.{Text}
use Rattle.mx_plan.specs.Fields.{Fields}
use Rattle.mx_plan.specs.Shapes.{PlannedShape, IsShapeOf, IsRefusalOf}
use Rattle.mx_plan.specs.Values.{and_then}
use Rattle.mx_plan.specs.NameLists.{names_of}
use Rattle.mx_plan.specs.Plans.{origin_of, planned_of, sections_of}
use Rattle.mx_plan.specs.declared.place.Place.TheVariants as place
use Rattle.mx_plan.specs.declared.shape.Shape.{Shape}
use Rattle.mx_plan.specs.declared.algorithm.Algorithm.{Algorithm}
use Rattle.mx_plan.specs.declared.needs.Needs.{Needs}
use Rattle.mx_plan.specs.declared.faults.PlanFault.{PlanFault}
use Rattle.mx_plan.specs.declared.faults.PlanFault.TheVariants.{BadShape, Memory}

abbrev pub both_names : Data → Result (List Text × List Text) PlanFault
both_names d =
    and_then (names_of MAX_NODES place.Nodes (get (codes "nodes") d))
    (λ nodes. and_then (names_of MAX_REGISTERS place.Registers (get (codes "registers") d))
    (λ registers. Ok (nodes, registers)))

-- the last section number, the origin and the shape of a plan for an algorithm over these nodes
abbrev pub setting_of : Needs → Algorithm → List Text → Data
    → Result (ℕ × ℕ × PlannedShape) PlanFault
setting_of needs algorithm nodes d =
    and_then (sections_of needs (get (codes "sections") d))
    (λ sections. and_then (origin_of (get (codes "origin") d))
    (λ origin. and_then (planned_of algorithm nodes d)
    (λ shape_planned. Ok (sections, origin, shape_planned))))

-- the setting (the last section number, the origin and the shape) is the described one, for n nodes
abbrev pub IsSettingOf : ℕ → ℕ × ℕ × PlannedShape → ℕ × ℕ × Shape → Type 0
IsSettingOf n (sections, origin, shape_planned) setting =
    (setting.0 ≡ sections) × (setting.1 ≡ origin) × IsShapeOf n shape_planned setting.2

-- the outcome of reading a setting: the described one; the fault, if none is described; the first
-- broken rule, if n nodes have no such shape
abbrev pub IsSettingOutcome : ℕ → Result (ℕ × ℕ × PlannedShape) PlanFault
    → Result (ℕ × ℕ × Shape) PlanFault → Type 0
IsSettingOutcome n (Ok wanted) (Ok setting) = IsSettingOf n wanted setting
IsSettingOutcome n (Ok wanted) (Err (BadShape fault)) = IsRefusalOf n wanted.2 fault
IsSettingOutcome n (Ok wanted) (Err _) = ⊥
IsSettingOutcome n (Err wanted) (Ok setting) = ⊥
IsSettingOutcome n (Err wanted) (Err fault) = fault ≡ wanted

-- the same, or memory ran out
abbrev pub SettingAnswers : ℕ → Result (ℕ × ℕ × PlannedShape) PlanFault
    → Result (ℕ × ℕ × Shape) PlanFault → Type 0
SettingAnswers n wanted r = IsSettingOutcome n wanted r ⊎ (r ≡ Err Memory)

abbrev pub plan_of : List Text → List Text → ℕ → ℕ → Shape → Fields
plan_of nodes registers sections origin shape =
    record {
      nodes = nodes;
      registers = registers;
      sections = sections;
      origin = origin;
      shape = shape;
    }
