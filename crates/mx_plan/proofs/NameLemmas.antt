-- The names by the rules are names.
use Rattle.std.proofs.Common.{◌≡◌, ◌&&◌, ◌∙◌, ℕ, List, [], ◌∷◌, Bool, true, false, if◌then◌else◌, length, map, nat_le, refl, ap, sym, arith, Option, Some, None, Result, Ok, Err, inl, inr, unwrap_or, IfOk}
use Rattle.std.specs.List.{list_all}
use Rattle.std.specs.Option.{option_map_or}
use Rattle.std.proofs.lemmas.Bool.Decides.{nat_tests}
use Rattle.serde_json.specs.Data.{Data}
use Rattle.serde_json.specs.Find.{as_str}
use Rattle.mx_stamps.proofs.Lists.{and_true}
use Rattle.mx_plan.specs.Text.{Text, is_name, has_double, AreNames}
use Rattle.mx_plan.specs.Values.{Answers, text_of}
use Rattle.mx_plan.specs.NameLists.{names_from, are_names, distinct_names, is_name_value}
use Rattle.mx_plan.specs.declared.place.Place.{Place}
use Rattle.mx_plan.specs.declared.faults.PlanFault.{PlanFault}
use Rattle.mx_plan.specs.declared.faults.PlanFault.TheVariants.{NotPlan, DoubleName}
use Rattle.mx_plan.proofs.Lists.{length-map'}

-- the texts of names are names
formed_option : (s : Option Text) → option_map_or is_name s false ≡ true → is_name (unwrap_or s []) ≡ true
formed_option (Some t) h = h
formed_option None h = let bad : ⊥ = cc in absurd bad

formed_one : (d : Data) → is_name_value d ≡ true → is_name (text_of d) ≡ true
unfolding is_name_value
formed_one d h = formed_option (as_str d) h

formed : (ds : List Data) → list_all is_name_value ds ≡ true → list_all is_name (map text_of ds) ≡ true
formed [] h = refl
formed (d ∷ ds) h =
    let both = and_true (is_name_value d) (list_all is_name_value ds) h in
    rw (formed_one d both.0, formed ds both.1) refl

-- the results of the two tests
chosen : (p : Place) (a b : Bool) (texts names : List Text)
    → (if a then (if b then Err (DoubleName p) else Ok texts) else Err (NotPlan p)) ≡ Ok names
    → (a ≡ true) × (b ≡ false) × (texts ≡ names)
chosen p true true texts names h = let bad : ⊥ = cc in absurd bad
chosen p true false texts names h = (refl, refl, cc)
chosen p false b texts names h = let bad : ⊥ = cc in absurd bad

names_are : (most : ℕ) (p : Place) (ds : List Data) (names : List Text)
    → names_from most p ds ≡ Ok names → AreNames most names
names_are most p ds names is =
    let way = chosen p (are_names most ds) (has_double (map text_of ds)) (map text_of ds) names is in
    let some = and_true (nat_le 1 (length ds)) (nat_le (length ds) most && list_all is_name_value ds) way.0 in
    let few = and_true (nat_le (length ds) most) (list_all is_name_value ds) some.1 in
    let same : length (map text_of ds) ≡ length ds = length-map' text_of ds in
    let len : length names ≡ length ds = sym (ap length way.2) ∙ same in
    record {
      some = grind (arith, nat_tests, some.0, len);
      few = grind (arith, nat_tests, few.0, len);
      formed = sym (ap (list_all is_name) way.2) ∙ formed ds few.1;
      distinct = sym (ap has_double way.2) ∙ way.1;
    }

-- the names that were read, or memory ran out
pub names_read : (most : ℕ) (p : Place) (ds : List Data) (names : List Text)
    → Answers (names_from most p ds) (Ok names) → AreNames most names
names_read most p ds names (inl is) = names_are most p ds names (sym is)
names_read most p ds names (inr h) = let bad : ⊥ = cc in absurd bad

-- names of the right form, all different
pub names_found : (most : ℕ) (p : Place) (ds : List Data) (r : Result (List Text) PlanFault)
    → are_names most ds ≡ true → Answers (distinct_names p (map text_of ds)) r → IfOk r (λ names. AreNames most names)
names_found most p ds (Ok names) formed given = names_read most p ds names (rw formed given)
names_found most p ds (Err e) formed given = tt
