-- The events in a JSON value.
use Rattle.std.specs.Prelude.{◌&&◌, ℕ, List, [], ◌∷◌, Bool, true, false, is_some, length, nat_lt, if◌then◌else◌, Option, Some, Result, Ok, Err}
use Rattle.std.specs.Option.{option_map_or}
use Rattle.serde_json.specs.Data.{Data}
use Rattle.mx_plan.specs.Fields.{Fields}
use Rattle.mx_plan.specs.Values.{and_then, each_from, elements, list_in, number_of, of_text, text_of}
use Rattle.mx_plan.specs.NameLists.{is_name_value, number_in}
use Rattle.mx_plan.specs.declared.place.Place.TheVariants as place
use Rattle.mx_plan.specs.declared.faults.PlanFault.{PlanFault}
use Rattle.mx_plan.specs.declared.faults.PlanFault.TheVariants.{NotPlan}
use Rattle.mx_events.specs.Arguments.{arguments_of}
use Rattle.mx_events.specs.Arguments as events
use Rattle.mx_events.specs.declared.argument.Argument.{Argument}
use Rattle.mx_events.specs.declared.argument.Argument.TheVariants as argument
use Rattle.mx_events.specs.declared.argument.ArgumentKind.{ArgumentKind}
use Rattle.mx_events.specs.declared.argument.ArgumentKind.TheVariants.{Node, Register, Value, Section, Parcel}
use Rattle.mx_events.specs.declared.event.Event.{Event}
use Rattle.mx_events.specs.declared.kind.EventKind.{EventKind}
use Rattle.mx_events.specs.Words.{kind_named}
use Rattle.mx_stamps.specs.declared.limits.TheConstants.{MAX_EVENTS}

-- whether a value has the form of an argument: a name for a node or a register, and a whole number
-- otherwise
abbrev pub has_form : ArgumentKind → Data → Bool
has_form Node d = is_name_value d
has_form Register d = is_name_value d
has_form Value d = is_some (number_of (Some d))
has_form Section d = is_some (number_of (Some d))
has_form Parcel d = is_some (number_of (Some d))

-- whether there are equally many values and kinds, and each value has the form of its kind
abbrev pub have_form : List ArgumentKind → List Data → Bool
have_form [] [] = true
have_form (kind ∷ kinds) (d ∷ ds) = has_form kind d && have_form kinds ds
have_form _ _ = false

abbrev pub kind_in : Data → Option EventKind
kind_in w = kind_named (text_of w)

-- the fault that event k has a wrong form
abbrev pub misfit : {T : Type 0} → ℕ → Result T PlanFault
misfit k = Err (NotPlan (place.Event k))

-- event k, with the names of nodes and registers in plan p
module _ (p : Fields) (k : ℕ) where
  -- the number in a value, or the fault that it has none
  abbrev pub number_at : Data → Result Argument PlanFault
  number_at d = option_map_or (λ n. Ok (argument.Number n)) (number_of (Some d)) (misfit k)

  -- the argument in a value: the node or the register with this name, or the number
  abbrev pub argument_in : ArgumentKind → Data → Result Argument PlanFault
  argument_in Node d =
      and_then (number_in (place.Event k) p.nodes d) (λ i. Ok (argument.Node i))
  argument_in Register d =
      and_then (number_in (place.Event k) p.registers d) (λ j. Ok (argument.Register j))
  argument_in Value d = number_at d
  argument_in Section d = number_at d
  argument_in Parcel d = number_at d

  -- the arguments in these values, or the fault of the first wrong one from the left
  abbrev pub arguments_in : List ArgumentKind → List Data → Result (List Argument) PlanFault
  arguments_in (kind ∷ kinds) (d ∷ ds) =
      and_then (argument_in kind d) (λ a. and_then (arguments_in kinds ds) (λ rest. Ok (a ∷ rest)))
  arguments_in _ _ = Ok []

  -- the event of a kind with these values after its word. A value of a wrong form is reported
  -- before any unknown name
  abbrev pub event_with : EventKind → List Data → Result Event PlanFault
  event_with kind ds =
      if have_form (arguments_of kind) ds
      then and_then (arguments_in (arguments_of kind) ds) (λ arguments.
      option_map_or (λ event. Ok event) (events.event_of kind arguments) (misfit k))
      else misfit k

  -- the event in the elements of an array: the word of its kind, and then its arguments
  abbrev pub listed : List Data → Result Event PlanFault
  listed [] = misfit k
  listed (w ∷ ds) = option_map_or (λ kind. event_with kind ds) (kind_in w) (misfit k)

  unfoldable pub event_of : Data → Result Event PlanFault
  event_of d = listed (list_in d)

-- the events in these values; the first has the number k
abbrev pub events_from : Fields → ℕ → List Data → Result (List Event) PlanFault
events_from p = each_from (event_of p)

-- the events in these values, or a fault if they are more than `MAX_EVENTS`
abbrev pub few : Fields → List Data → Result (List Event) PlanFault
few p ds =
    if nat_lt MAX_EVENTS (length ds)
    then Err (NotPlan (place.Event MAX_EVENTS))
    else events_from p 0 ds

abbrev pub events_of : Fields → Data → Result (List Event) PlanFault
events_of p d = option_map_or (few p) (elements d) (Err (NotPlan place.Events))

-- the events that a text lists
abbrev pub events_at : Fields → List ℕ → Result (List Event) PlanFault
events_at p = of_text (events_of p)
