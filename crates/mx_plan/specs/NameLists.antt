-- The lists of names in a plan, and the numbers of names.
use Rattle.std.specs.Prelude.{◌&&◌, ℕ, List, Bool, false, length, map, nat_le, if◌then◌else◌, Option, Result, Ok, Err, position}
use Rattle.std.specs.List.{list_all}
use Rattle.std.specs.Option.{option_map_or}
use Rattle.std.specs.Str.{bytes_eq}
use Rattle.serde_json.specs.Data.{Data}
use Rattle.serde_json.specs.Find.{as_str}
use Rattle.mx_plan.specs.Text.{Text, is_name, has_double}
use Rattle.mx_plan.specs.Values.{array_of, text_of, elements}
use Rattle.mx_plan.specs.declared.place.Place.{Place}
use Rattle.mx_plan.specs.declared.faults.PlanFault.{PlanFault}
use Rattle.mx_plan.specs.declared.faults.PlanFault.TheVariants.{NotPlan, DoubleName, UnknownName}

-- whether a value is a string that is a name
unfoldable pub is_name_value : Data → Bool
is_name_value d = option_map_or is_name (as_str d) false

-- whether a value is an array of names
unfoldable pub is_name_list : Data → Bool
is_name_list d = option_map_or (list_all is_name_value) (elements d) false

-- whether there are 1 to `most` values, each a name
abbrev pub are_names : ℕ → List Data → Bool
are_names most ds = nat_le 1 (length ds) && (nat_le (length ds) most && list_all is_name_value ds)

-- the names, if no two are equal
abbrev pub distinct_names : Place → List Text → Result (List Text) PlanFault
distinct_names p names = if has_double names then Err (DoubleName p) else Ok names

-- the names in the elements of an array
abbrev pub names_from : ℕ → Place → List Data → Result (List Text) PlanFault
names_from most p ds =
    if are_names most ds then distinct_names p (map text_of ds) else Err (NotPlan p)

-- the names that the value of a key lists
abbrev pub names_of : ℕ → Place → Option Data → Result (List Text) PlanFault
names_of most p d = option_map_or (names_from most p) (array_of d) (Err (NotPlan p))

-- the number of the name in a value among the known names, or the fault that it is unknown
abbrev pub number_in : Place → List Text → Data → Result ℕ PlanFault
number_in p known d =
    option_map_or (λ n. Ok n) (position (bytes_eq (text_of d)) known) (Err (UnknownName p))
