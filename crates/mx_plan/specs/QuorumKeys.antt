-- The arbiter sets that a plan describes.
use Rattle.std.specs.Prelude.{◌≡◌, ◌⊎◌, ◌&&◌, ◌*◌, ◌==◌, ℕ, List, length, codes, if◌then◌else◌, Bool, Option, Some, Result, Ok, Err, Vec, option_and_then}
use Rattle.std.specs.List.{list_all}
use Rattle.std.specs.Option.{option_map_or}
use Rattle.std.specs.Str.{bytes_eq}
use Rattle.std.specs.declared.alloc.Global.{Global}
use Rattle.serde_json.specs.Data.{Data}
use Rattle.serde_json.specs.Find.{get, as_str}
use Rattle.mx_quorums.specs.Lists.{lists_of}
use Rattle.mx_plan.specs.Text.{Text}
use Rattle.mx_plan.specs.Shapes.{PlannedShape, plane, grid, listed}
use Rattle.mx_plan.specs.Values.{and_then, each, array_of, list_in, number_of}
use Rattle.mx_plan.specs.NameLists.{is_name_list, number_in}
use Rattle.mx_plan.specs.declared.place.Place.TheVariants as place
use Rattle.mx_plan.specs.declared.faults.PlanFault.{PlanFault}
use Rattle.mx_plan.specs.declared.faults.PlanFault.TheVariants.{NotPlan, Memory}

abbrev pub no_quorums : {T : Type 0} → Result T PlanFault
no_quorums = Err (NotPlan place.Quorums)

-- the grid of these rows and columns, if it has one place for each of n nodes
abbrev pub grid_of : ℕ → Option ℕ → Option ℕ → Result PlannedShape PlanFault
grid_of n (Some rows) (Some cols) = if rows * cols == n then Ok (grid rows cols) else no_quorums
grid_of n _ _ = no_quorums

-- the nodes whose names an array lists
abbrev pub set_of : List Text → Data → Result (List ℕ) PlanFault
set_of nodes d = each (number_in place.Quorums nodes) (list_in d)

-- whether these are n arrays of names
abbrev pub are_sets : ℕ → List Data → Bool
are_sets n ds = length ds == n && list_all is_name_list ds

-- the arbiter sets that these arrays list
abbrev pub family_of : List Text → List Data → Result PlannedShape PlanFault
family_of nodes ds = and_then (each (set_of nodes) ds) (λ sets. Ok (listed sets))

-- the same, if there is one array of names for each node
abbrev pub sets_from : List Text → List Data → Result PlannedShape PlanFault
sets_from nodes ds = if are_sets (length nodes) ds then family_of nodes ds else no_quorums

-- the arbiter sets that the value of a key lists
abbrev pub sets_of : List Text → Option Data → Result PlannedShape PlanFault
sets_of nodes d = option_map_or (sets_from nodes) (array_of d) no_quorums

-- the arbiter sets that a value describes, if their kind is this one: `plane`, `grid` or `listed`
abbrev pub kind_of : List Text → Data → Text → Result PlannedShape PlanFault
kind_of nodes d kind =
    if bytes_eq kind (codes "plane") then Ok plane
    else if bytes_eq kind (codes "grid") then
    grid_of (length nodes) (number_of (get (codes "rows") d))
    (number_of (get (codes "cols") d))
    else if bytes_eq kind (codes "listed") then sets_of nodes (get (codes "sets") d)
    else no_quorums

-- the arbiter sets that a value describes, by its key `kind`
abbrev pub quorums_from : List Text → Data → Result PlannedShape PlanFault
quorums_from nodes d =
    option_map_or (kind_of nodes d) (option_and_then as_str (get (codes "kind") d)) no_quorums

-- the arbiter sets that the value of the key `quorums` describes
abbrev pub quorums_of : List Text → Option Data → Result PlannedShape PlanFault
quorums_of nodes d = option_map_or (quorums_from nodes) d no_quorums

-- the sets, or the fault, are the wanted ones; or memory ran out
abbrev pub GivesSets : Result (List (List ℕ)) PlanFault
    → Result (Vec (Vec ℕ Global) Global) PlanFault → Type 0
GivesSets wanted (Ok sets) = wanted ≡ Ok (lists_of sets.items)
GivesSets wanted (Err e) = (wanted ≡ Err e) ⊎ (e ≡ Memory)
