-- Events that are read name nodes and registers of the plan.
use Rattle.std.proofs.Common.{◌≡◌, ◌<◌, ◌+◌, ℕ, Bool, true, false, List, [], ◌∷◌, Option, Some, None, Result, Ok, Err, IfOk, IfSome, length, subst, refl, nat_lt}
use Rattle.std.specs.Prelude.{if◌then◌else◌, position}
use Rattle.std.specs.Option.{option_map_or}
use Rattle.std.specs.Str.{bytes_eq}
use Rattle.std.proofs.lemmas.List.Quantifiers.{position-Some}
use Rattle.std.specs.Prelude.{Vec}
use Rattle.std.specs.declared.alloc.Global.{Global}
use Rattle.serde_json.specs.Data.{Data}
use Rattle.mx_events.specs.Arguments.{AreEventsWithin, AreWithin, IsArgumentWithin, IsWithin, arguments_of, event_of}
use Rattle.mx_events.proofs.WithinLemmas.{event_within, more_within, none_within}
use Rattle.mx_events.specs.declared.argument.Argument.{Argument}
use Rattle.mx_events.specs.declared.argument.Argument.TheVariants.{Number}
use Rattle.mx_events.specs.declared.argument.ArgumentKind.{ArgumentKind}
use Rattle.mx_events.specs.declared.argument.ArgumentKind.TheVariants as wanted
use Rattle.mx_events.specs.declared.event.Event.{Event}
use Rattle.mx_events.specs.declared.kind.EventKind.{EventKind}
use Rattle.mx_plan.specs.Fields.{Fields}
use Rattle.mx_plan.specs.NameLists as names
use Rattle.mx_plan.specs.Values.{Gives, and_then, each_from, elements, list_in, number_of, text_of}
use Rattle.mx_plan.specs.Events.{argument_in, arguments_in, events_from, events_of, few, have_form, kind_in, listed}
use Rattle.mx_plan.specs.Events as read
use Rattle.mx_plan.specs.declared.place.Place.TheVariants as place
use Rattle.mx_plan.specs.declared.place.Place.{Place}
use Rattle.mx_plan.specs.declared.faults.PlanFault.{PlanFault}

-- what holds of a value, and what then holds of what is made of it
module _ {A B : Type 0} (P : A → Type 0) (Q : B → Type 0) where
  step : (r : Result A PlanFault) (f : A → Result B PlanFault) → IfOk r P → ((a : A) → P a → IfOk (f a) Q) → IfOk (and_then r f) Q
  step (Ok a) f holds next = next a holds
  step (Err fault) f holds next = tt

  look : (o : Option A) (f : A → Result B PlanFault) (fault : PlanFault) → IfSome o P → ((a : A) → P a → IfOk (f a) Q) → IfOk (option_map_or f o (Err fault)) Q
  look (Some a) f fault holds next = next a holds
  look None f fault holds next = tt

abbrev Any : {A : Type 0} → A → Type 0
Any _ = Unit {0}

any : {A : Type 0} (o : Option A) → IfSome o Any
any (Some a) = tt
any None = tt

found : (name : List ℕ) (all : List (List ℕ)) (o : Option ℕ) → position (bytes_eq name) all ≡ o → IfSome o (λ i. i < length all)
found name all None is = tt
found name all (Some i) is = (position-Some (bytes_eq name) all i [] is).0

-- the number of a name is below that of all names
below : (at : Place) (all : List (List ℕ)) (d : Data) → IfOk (names.number_in at all d) (λ i. i < length all)
below at all d = look (λ i. i < length all) (λ i. i < length all) (position (bytes_eq (text_of d)) all) _ _ (found (text_of d) all _ refl) (λ i lt. lt)

module _ (p : Fields) where
  abbrev Within : Event → Type 0
  Within = IsWithin (length p.nodes) (length p.registers)

  abbrev Given : Argument → Type 0
  Given = IsArgumentWithin (length p.nodes) (length p.registers)

  abbrev AllGiven : List Argument → Type 0
  AllGiven = AreWithin (length p.nodes) (length p.registers)

  abbrev AllWithin : List Event → Type 0
  AllWithin = AreEventsWithin (length p.nodes) (length p.registers)

  module _ (k : ℕ) where
    number : (o : Option ℕ) (fault : PlanFault) → IfOk (option_map_or (λ m. Ok (Number m)) o (Err fault)) Given
    number o fault = look Any Given o _ fault (any o) (λ m is. tt)

    one : (w : ArgumentKind) (d : Data) → IfOk (argument_in p k w d) Given
    one wanted.Node d = step (λ i. i < length p.nodes) Given (names.number_in (place.Event k) p.nodes d) _ (below (place.Event k) p.nodes d) (λ i lt. lt)
    one wanted.Register d = step (λ i. i < length p.registers) Given (names.number_in (place.Event k) p.registers d) _ (below (place.Event k) p.registers d) (λ i lt. lt)
    one wanted.Value d = number (number_of (Some d)) _
    one wanted.Section d = number (number_of (Some d)) _
    one wanted.Parcel d = number (number_of (Some d)) _

    each : (ws : List ArgumentKind) (ds : List Data) → IfOk (arguments_in p k ws ds) AllGiven
    each [] ds = tt
    each (w ∷ ws) [] = tt
    each (w ∷ ws) (d ∷ ds) =
        step Given AllGiven (argument_in p k w d) _ (one w d) (λ a here.
        step AllGiven AllGiven (arguments_in p k ws ds) _ (each ws ds) (λ rest more. (here, more)))

    formed : (w : EventKind) (ds : List Data) (b : Bool)
        → IfOk (if b then and_then (arguments_in p k (arguments_of w) ds) (λ given. option_map_or (λ e. Ok e) (event_of w given) (read.misfit k)) else read.misfit k) Within
    formed w ds true =
        step AllGiven Within (arguments_in p k (arguments_of w) ds) _ (each (arguments_of w) ds) (λ given h.
        look Within Within (event_of w given) _ _ (event_within (length p.nodes) (length p.registers) w given h) (λ e is. is))
    formed w ds false = tt

    listed_within : (ds : List Data) → IfOk (listed p k ds) Within
    listed_within [] = tt
    listed_within (w ∷ ds) = look Any Within (kind_in w) _ _ (any (kind_in w)) (λ o is. formed o ds (have_form (arguments_of o) ds))

    event_read : (d : Data) → IfOk (read.event_of p k d) Within
    unfolding read.event_of
    event_read d = listed_within (list_in d)

  from_within : (k : ℕ) (ds : List Data) → IfOk (events_from p k ds) AllWithin
  unfolding each_from
  from_within k [] = none_within (length p.nodes) (length p.registers)
  from_within k (d ∷ ds) =
      step Within AllWithin (read.event_of p k d) _ (event_read k d) (λ e here.
      step AllWithin AllWithin (events_from p (k + 1) ds) _ (from_within (k + 1) ds) (λ es there. more_within (length p.nodes) (length p.registers) e es here there))

  few_within : (ds : List Data) (fault : PlanFault) (b : Bool) → IfOk (if b then Err fault else events_from p 0 ds) AllWithin
  few_within ds fault true = tt
  few_within ds fault false = from_within 0 ds

  value_within : (d : Data) → IfOk (events_of p d) AllWithin
  value_within d = look Any AllWithin (elements d) (few p) _ (any (elements d)) (λ ds is. few_within ds _ (nat_lt 1000000 (length ds)))

  -- the events that are read of a value name nodes and registers of the plan
  pub read_within : (d : Data) (r : Result (Vec Event Global) PlanFault) → Gives (events_of p d) r → IfOk r (λ v. AllWithin v.items)
  read_within d (Ok v) is = subst (λ (x : Result (List Event) PlanFault). IfOk x AllWithin) is (value_within d)
  read_within d (Err fault) is = tt
