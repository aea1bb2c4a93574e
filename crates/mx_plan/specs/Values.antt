-- Steps of reading a JSON value.
use Rattle.std.specs.Prelude.{◌≡◌, ◌⊎◌, ℕ, ◌+◌, List, [], ◌∷◌, Bool, is_some, if◌then◌else◌, Option, None, Result, Ok, Err, Vec, option_map, option_and_then, unwrap_or}
use Rattle.std.specs.Option.{option_map_or}
use Rattle.std.specs.Str.{is_utf8}
use Rattle.std.specs.declared.alloc.Global.{Global}
use Rattle.serde_json.specs.Data.{Data, Items, no_items, item}
use Rattle.serde_json.specs.Find.{as_str, as_array, as_number, as_object, as_u64}
use Rattle.serde_json.specs.Read.{read}
use Rattle.mx_plan.specs.Text.{Text}
use Rattle.mx_plan.specs.declared.faults.PlanFault.{PlanFault}
use Rattle.mx_plan.specs.declared.faults.PlanFault.TheVariants.{NotJson, Memory}

-- the result is the wanted one, or memory ran out
abbrev pub Answers : {T : Type 0} → Result T PlanFault → Result T PlanFault → Type 0
Answers wanted r = (r ≡ wanted) ⊎ (r ≡ Err Memory)

-- the list, or the fault, is the wanted one; or memory ran out
abbrev pub Gives : {T : Type 0} → Result (List T) PlanFault
    → Result (Vec T Global) PlanFault → Type 0
Gives wanted (Ok list) = wanted ≡ Ok list.items
Gives wanted (Err e) = (wanted ≡ Err e) ⊎ (e ≡ Memory)

-- the value of a JSON text in UTF-8
unfoldable pub value_of : List ℕ → Option Data
value_of text = if is_utf8 text then read text else None

-- applies f to the JSON value of a text; the fault is `NotJson` if there is no such value
abbrev pub of_text : {T : Type 0} → (Data → Result T PlanFault) → List ℕ → Result T PlanFault
of_text f text = option_map_or f (value_of text) (Err NotJson)

-- continues if the first step succeeded
abbrev pub and_then : {A B : Type 0} → Result A PlanFault → (A → Result B PlanFault)
    → Result B PlanFault
and_then (Ok a) f = f a
and_then (Err e) f = Err e

-- applies f to each item with its number, which is k for the first item; returns the results, or
-- the first fault
unfoldable pub each_from : {A B : Type 0} → (ℕ → A → Result B PlanFault) → ℕ → List A
    → Result (List B) PlanFault
each_from f k [] = Ok []
each_from f k (x ∷ xs) =
    and_then (f k x) (λ y. and_then (each_from f (k + 1) xs) (λ ys. Ok (y ∷ ys)))

-- applies f to each item; returns the results, or the first fault
abbrev pub each : {A B : Type 0} → (A → Result B PlanFault) → List A → Result (List B) PlanFault
each f xs = each_from (λ _. f) 0 xs

abbrev pub is_object : Data → Bool
is_object d = is_some (as_object d)

-- the items of an array, as a list
abbrev pub list_of : Items → List Data
list_of no_items = []
list_of (item d ds) = d ∷ list_of ds

-- the elements of a value that is an array
abbrev pub elements : Data → Option (List Data)
elements d = option_map list_of (as_array d)

-- the elements of the value of a key, if the key is there and its value is an array
abbrev pub array_of : Option Data → Option (List Data)
array_of d = option_and_then elements d

-- the elements of an array, none for any other value
abbrev pub list_in : Data → List Data
list_in d = unwrap_or (elements d) []

-- the text of a string, empty for any other value
abbrev pub text_of : Data → Text
text_of d = unwrap_or (as_str d) []

-- the value of a key, if the key is there and its value is a whole number
abbrev pub number_of : Option Data → Option ℕ
number_of d = option_and_then as_u64 (option_and_then as_number d)
