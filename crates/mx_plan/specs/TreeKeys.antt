-- The tree that a plan describes.
use Rattle.std.specs.Prelude.{◌&&◌, ℕ, List, [], ◌∷◌, Bool, false, if◌then◌else◌, Option, Result, Ok, Err}
use Rattle.std.specs.List.{list_all}
use Rattle.std.specs.Option.{option_map_or}
use Rattle.serde_json.specs.Data.{Data}
use Rattle.mx_plan.specs.Text.{Text}
use Rattle.mx_plan.specs.Values.{and_then, each, array_of, list_in}
use Rattle.mx_plan.specs.NameLists.{is_name_value, number_in}
use Rattle.mx_plan.specs.declared.place.Place.TheVariants as place
use Rattle.mx_plan.specs.declared.faults.PlanFault.{PlanFault}
use Rattle.mx_plan.specs.declared.faults.PlanFault.TheVariants.{NotPlan}

abbrev pub no_edges : {T : Type 0} → Result T PlanFault
no_edges = Err (NotPlan place.Edges)

-- whether these values are two names
abbrev pub are_ends : List Data → Bool
are_ends (a ∷ b ∷ []) = is_name_value a && is_name_value b
are_ends _ = false

-- whether a value is an array of two names
unfoldable pub is_edge : Data → Bool
is_edge d = are_ends (list_in d)

-- the numbers of the two nodes with these names
abbrev pub ends_of : List Text → List Data → Result (ℕ × ℕ) PlanFault
ends_of nodes (a ∷ b ∷ []) =
    and_then (number_in place.Edges nodes a)
    (λ i. and_then (number_in place.Edges nodes b) (λ j. Ok (i, j)))
ends_of nodes _ = no_edges

-- the nodes that an edge joins
abbrev pub edge_of : List Text → Data → Result (ℕ × ℕ) PlanFault
edge_of nodes d = ends_of nodes (list_in d)

-- the edges that these arrays describe. A wrong form is reported before any unknown name
abbrev pub edges_from : List Text → List Data → Result (List (ℕ × ℕ)) PlanFault
edges_from nodes ds = if list_all is_edge ds then each (edge_of nodes) ds else no_edges

abbrev pub edges_of : List Text → Option Data → Result (List (ℕ × ℕ)) PlanFault
edges_of nodes d = option_map_or (edges_from nodes) (array_of d) no_edges

-- the node that a value names
abbrev pub holder_from : List Text → Data → Result ℕ PlanFault
holder_from nodes d =
    if is_name_value d then number_in place.Holder nodes d else Err (NotPlan place.Holder)

abbrev pub holder_of : List Text → Option Data → Result ℕ PlanFault
holder_of nodes d = option_map_or (holder_from nodes) d (Err (NotPlan place.Holder))
