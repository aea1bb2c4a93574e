-- The k-th event, from the values that it lists.
use Rattle.std.proofs.Common.{◌≡◌, ◌∙◌, ◌&&◌, ◌+◌, ◌<◌, ◌≤◌, ℕ, Bool, true, false, List, [], ◌∷◌, ◌++◌, length, map, drop, get_or, ap, refl, add-one, drop-cons, arith, nat_lt, Some, Result, Ok, Err, Vec, Global}
use Rattle.std.proofs.lemmas.Bool.{and_parts}
use Rattle.std.proofs.lemmas.Bool.Decides.{nat_tests}
use Rattle.std.proofs.lemmas.List.{drop_all}
use Rattle.serde_json.specs.Data.{Data}
use Rattle.mx_plan.specs.Fields.{Fields}
use Rattle.mx_plan.specs.Values.{Gives, and_then, elements}
use Rattle.mx_plan.specs.Events.{argument_in, arguments_in, events_from, events_of, has_form, have_form}
use Rattle.mx_plan.specs.declared.faults.PlanFault.{PlanFault}
use Rattle.mx_plan.proofs.EachLemmas.{after, after_one}
use Rattle.mx_events.specs.declared.argument.Argument.{Argument}
use Rattle.mx_events.specs.declared.argument.ArgumentKind.{ArgumentKind}
use Rattle.mx_events.specs.declared.event.Event.{Event}

-- there are as many values of the right form as kinds
pub as_many : (kinds : List ArgumentKind) (ds : List Data) → have_form kinds ds ≡ true → length kinds ≡ length ds
as_many [] [] form = refl
as_many [] (d ∷ ds) form = cc
as_many (kind ∷ kinds) [] form = cc
as_many (kind ∷ kinds) (d ∷ ds) form =
    grind (arith, as_many kinds ds (and_parts (has_form kind d) (have_form kinds ds) form).1)

-- other values do not have the form
pub unlike : (kinds : List ArgumentKind) (ds : List Data) → ¬ (length kinds ≡ length ds) → have_form kinds ds ≡ false
unlike [] [] other = absurd (other refl)
unlike [] (d ∷ ds) other = refl
unlike (kind ∷ kinds) [] other = refl
unlike (kind ∷ kinds) (d ∷ ds) other =
    rw (unlike kinds ds (λ same. other (grind (arith, same)))) (and_false (has_form kind d))
  where
    and_false : (b : Bool) → (b && false) ≡ false
    and_false true = refl
    and_false false = refl

module _ {X : Type 0} (view : X → Data) (kinds : List ArgumentKind) (xs : List X) where
  -- the i-th kind and the i-th value, and those after them
  heads : {R : Type 0} (f : List ArgumentKind → List Data → R) (i : ℕ) (kind : ArgumentKind) (x : X) → i < length kinds → i < length xs
      → f (drop i kinds) (map view (drop i xs)) ≡ f (get_or kinds i kind ∷ drop (i + 1) kinds) (view (get_or xs i x) ∷ map view (drop (i + 1) xs))
  heads f i kind x in_kinds in_values =
      rw (drop-cons kinds i kind in_kinds, drop-cons xs i x in_values, add-one i) refl

  -- the form of the values from the i-th on, by the kinds from there on
  abbrev pub form_from : ℕ → Bool
  form_from i = have_form (drop i kinds) (map view (drop i xs))

  module _ (p : Fields) (k : ℕ) where
    abbrev pub arguments_from : ℕ → Result (List Argument) PlanFault
    arguments_from i = arguments_in p k (drop i kinds) (map view (drop i xs))

    one_more : (i : ℕ) (kind : ArgumentKind) (x : X) → i < length kinds → i < length xs
        → arguments_from i ≡ and_then (argument_in p k (get_or kinds i kind) (view (get_or xs i x))) (λ a. and_then (arguments_from (i + 1)) (λ rest. Ok (a ∷ rest)))
    one_more i kind x in_kinds in_values = heads (arguments_in p k) i kind x in_kinds in_values

    pub argument_ok : (done : List Argument) (i : ℕ) (kind : ArgumentKind) (x : X) (a : Argument) → i < length kinds → i < length xs
        → argument_in p k (get_or kinds i kind) (view (get_or xs i x)) ≡ Ok a → after done (arguments_from i) ≡ after (done ++ a ∷ []) (arguments_from (i + 1))
    argument_ok done i kind x a in_kinds in_values is =
        ap (after done) (one_more i kind x in_kinds in_values ∙ ap (λ r. and_then r (λ b. and_then (arguments_from (i + 1)) (λ rest. Ok (b ∷ rest)))) is)
        ∙ after_one done a (arguments_from (i + 1))

    pub argument_err : (done : List Argument) (i : ℕ) (kind : ArgumentKind) (x : X) (fault : PlanFault) → i < length kinds → i < length xs
        → argument_in p k (get_or kinds i kind) (view (get_or xs i x)) ≡ Err fault → after done (arguments_from i) ≡ Err fault
    argument_err done i kind x fault in_kinds in_values is =
        ap (after done) (one_more i kind x in_kinds in_values ∙ ap (λ r. and_then r (λ b. and_then (arguments_from (i + 1)) (λ rest. Ok (b ∷ rest)))) is)

    pub arguments_end : (i : ℕ) → length kinds ≤ i → arguments_from i ≡ Ok []
    arguments_end i no_kinds = rw (drop_all i kinds no_kinds) refl

-- few enough events are read one by one
pub few_read : (p : Fields) (d : Data) (ds : List Data) (r : Result (Vec Event Global) PlanFault)
    → Some ds ≡ elements d → length ds ≤ 1000000 → Gives (events_from p 0 ds) r → Gives (events_of p d) r
few_read p d ds r listed few given =
    let no_more : nat_lt 1000000 (length ds) ≡ false = grind (arith, nat_tests) in
    rw (← listed, no_more) given
