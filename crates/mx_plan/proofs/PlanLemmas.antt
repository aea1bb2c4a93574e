-- The outcome of reading a plan, from those of its parts.
use Rattle.std.proofs.Common.{◌≡◌, ◌⊎◌, ◌∙◌, ℕ, List, true, length, ap, subst, sym, refl, Result, Ok, Err, IfOk, inl, inr, codes}
use Rattle.std.specs.Result.{MatchResult, IsOkAnd}
use Rattle.serde_json.specs.Data.{Data}
use Rattle.serde_json.specs.Find.{get}
use Rattle.mx_plan.specs.Text.{Text, AreNames}
use Rattle.mx_plan.specs.Fields.{Fields}
use Rattle.mx_plan.specs.Shapes.{PlannedShape}
use Rattle.mx_plan.specs.Values.{Answers, and_then, is_object}
use Rattle.mx_plan.specs.NameLists.{names_of}
use Rattle.mx_plan.specs.Plans.{Draft, IsOutcome, algorithm_of, draft_of, origin_of, planned_of, sections_of}
use Rattle.mx_plan.specs.PlanParts.{SettingAnswers, IsSettingOutcome, both_names, plan_of, setting_of}
use Rattle.mx_plan.specs.declared.place.Place.TheVariants as place
use Rattle.mx_plan.specs.declared.shape.Shape.{Shape}
use Rattle.mx_plan.specs.declared.algorithm.Algorithm.{Algorithm}
use Rattle.mx_plan.specs.declared.needs.Needs.{Needs}
use Rattle.mx_plan.specs.declared.faults.PlanFault.{PlanFault}
use Rattle.mx_plan.specs.declared.faults.PlanFault.TheVariants.{NotJson, NotPlan, DoubleName, UnknownName, BadShape, Memory}

-- the fault of two steps is the fault of the steps after them
both_refuse : {A B C : Type 0} (r : Result A PlanFault) (s : Result B PlanFault) (f : A → B → Result C PlanFault) (e : PlanFault)
    → and_then {B = A × B} r (λ a. and_then s (λ b. Ok (a, b))) ≡ Err e → and_then r (λ a. and_then s (f a)) ≡ Err e
both_refuse (Ok a) (Ok b) f e is = let bad : ⊥ = cc in absurd bad
both_refuse (Ok a) (Err fault) f e is = cc
both_refuse (Err fault) s f e is = cc

-- after two steps that succeed, the next has their results
both_answer : {A B C : Type 0} (r : Result A PlanFault) (s : Result B PlanFault) (f : A → B → Result C PlanFault) (a : A) (b : B)
    → and_then {B = A × B} r (λ a. and_then s (λ b. Ok (a, b))) ≡ Ok (a, b) → and_then r (λ a. and_then s (f a)) ≡ f a b
both_answer {A} {B} (Ok x) (Ok y) f a b is = let pair : ◌≡◌ {A = A × B} (x, y) (a, b) = cc in ap (λ p. f p.0 p.1) pair
both_answer (Ok x) (Err fault) f a b is = let bad : ⊥ = cc in absurd bad
both_answer (Err fault) s f a b is = let bad : ⊥ = cc in absurd bad

-- three steps, followed by one over their results
in_turn : {A B C D : Type 0} (r : Result A PlanFault) (s : Result B PlanFault) (t : Result C PlanFault) (f : A → B → C → Result D PlanFault)
    → and_then r (λ a. and_then s (λ b. and_then t (f a b)))
    ≡ and_then (and_then {B = A × B × C} r (λ a. and_then s (λ b. and_then t (λ c. Ok (a, b, c))))) (λ p. f p.0 p.1 p.2)
in_turn (Ok a) (Ok b) (Ok c) f = refl
in_turn (Ok a) (Ok b) (Err fault) f = refl
in_turn (Ok a) (Err fault) t f = refl
in_turn (Err fault) s t f = refl

-- a result that is no fault is that by the rules
answered : {T : Type 0} (wanted : Result T PlanFault) (x : T) → Answers wanted (Ok x) → wanted ≡ Ok x
answered wanted x (inl is) = sym is
answered wanted x (inr h) = let bad : ⊥ = cc in absurd bad

-- a fault of the names of the nodes is the fault of both
pub nodes_refused : (d : Data) (e : PlanFault) (r : Result (List Text × List Text) PlanFault)
    → Answers (names_of 21 place.Nodes (get (codes "nodes") d)) (Err e) → r ≡ Err e → Answers (both_names d) r
nodes_refused d e r (inl is) err = inl (rw (err, ← is) refl)
nodes_refused d e r (inr is) err = let memory : e ≡ Memory = cc in inr (err ∙ ap Err memory)

-- the names of the nodes, and the outcome of reading the registers
module _ (nodes : List Text) where
  abbrev pub ArePaired : Result (List Text) PlanFault → Result (List Text × List Text) PlanFault → Type 0
  ArePaired registers r = MatchResult registers (λ names. IsOkAnd r (λ both. both ≡ (nodes, names))) (λ e. r ≡ Err e)

  pub both_given : (d : Data) (registers : Result (List Text) PlanFault) (r : Result (List Text × List Text) PlanFault)
      → Answers (names_of 21 place.Nodes (get (codes "nodes") d)) (Ok nodes)
      → Answers (names_of 32 place.Registers (get (codes "registers") d)) registers → ArePaired registers r → Answers (both_names d) r
  both_given d (Ok names) (Ok both) (inl first) (inl second) made = inl (rw (made, ← first, ← second) refl)
  both_given d (Ok names) (Ok both) (inl first) (inr second) made = let bad : ⊥ = cc in absurd bad
  both_given d (Ok names) (Err e) (inl first) second made = absurd made
  both_given d (Err e) r (inl first) (inl second) made = inl (rw (made, ← first, ← second) refl)
  both_given d (Err e) r (inl first) (inr second) made = let memory : e ≡ Memory = cc in inr (made ∙ ap Err memory)
  both_given d registers r (inr first) second made = let bad : ⊥ = cc in absurd bad

  pub nodes_kept : (registers : Result (List Text) PlanFault) (r : Result (List Text × List Text) PlanFault)
      → AreNames 21 nodes → ArePaired registers r → IfOk r (λ names. AreNames 21 names.0)
  nodes_kept (Ok names) (Ok both) are made = rw made are
  nodes_kept (Err e) (Ok both) are made = let bad : ⊥ = cc in absurd bad
  nodes_kept registers (Err e) are made = tt

drafted : List Text → List Text → ℕ → ℕ → PlannedShape → Draft
drafted nodes registers sections origin shape_planned =
    record { nodes = nodes; registers = registers; sections = sections; origin = origin; shape_planned = shape_planned }

-- the outcome of a setting is that of its plan
settled : (nodes registers : List Text) (w : Result (ℕ × ℕ × PlannedShape) PlanFault) (s : Result (ℕ × ℕ × Shape) PlanFault) (r : Result Fields PlanFault)
    → IsSettingOutcome (length nodes) w s
    → MatchResult s (λ x. IsOkAnd r (λ p. p ≡ plan_of nodes registers x.0 x.1 x.2)) (λ e. r ≡ Err e)
    → IsOutcome (and_then w (λ p. Ok (drafted nodes registers p.0 p.1 p.2))) r
unfolding drafted
settled nodes registers (Ok w) (Ok s) (Ok p) is made = rw made (record { nodes = refl; registers = refl; sections = is.0; origin = is.1; shape = is.2 })
settled nodes registers (Ok w) (Ok s) (Err p) is made = absurd made
settled nodes registers (Ok w) (Err (BadShape fault)) r is made = rw made is
settled nodes registers (Ok w) (Err NotJson) r is made = absurd is
settled nodes registers (Ok w) (Err (NotPlan p)) r is made = absurd is
settled nodes registers (Ok w) (Err (DoubleName p)) r is made = absurd is
settled nodes registers (Ok w) (Err (UnknownName p)) r is made = absurd is
settled nodes registers (Ok w) (Err Memory) r is made = absurd is
settled nodes registers (Err w) (Ok s) r is made = absurd is
settled nodes registers (Err w) (Err e) r is made = rw made is

module _ (needs : Needs) (d : Data) (algorithm : Algorithm) (object : is_object d ≡ true) (named : algorithm_of needs (get (codes "algorithm") d) ≡ Ok algorithm) where
  -- the plan that is described, once its names are read
  rest_of : List Text → List Text → Result Draft PlanFault
  rest_of nodes registers =
      and_then (sections_of needs (get (codes "sections") d))
      (λ sections. and_then (origin_of (get (codes "origin") d))
      (λ origin. and_then (planned_of algorithm nodes d)
      (λ shape_planned. Ok (drafted nodes registers sections origin shape_planned))))

  names_first : draft_of needs d
      ≡ and_then (names_of 21 place.Nodes (get (codes "nodes") d))
      (λ nodes. and_then (names_of 32 place.Registers (get (codes "registers") d)) (rest_of nodes))
  unfolding drafted rest_of
  names_first = rw (object, named) refl

  pub names_refused : (e : PlanFault) (r : Result Fields PlanFault) → Answers (both_names d) (Err e) → r ≡ Err e
      → IsOutcome (draft_of needs d) r ⊎ (r ≡ Err Memory)
  names_refused e r (inl is) err = inl (rw (err, names_first, both_refuse _ _ rest_of e (sym is)) refl)
  names_refused e r (inr is) err = let memory : e ≡ Memory = cc in inr (err ∙ ap Err memory)

  pub plan_made : (nodes registers : List Text) (s : Result (ℕ × ℕ × Shape) PlanFault) (r : Result Fields PlanFault)
      → Answers (both_names d) (Ok (nodes, registers))
      → SettingAnswers (length nodes) (setting_of needs algorithm nodes d) s
      → MatchResult s (λ x. IsOkAnd r (λ p. p ≡ plan_of nodes registers x.0 x.1 x.2)) (λ e. r ≡ Err e)
      → IsOutcome (draft_of needs d) r ⊎ (r ≡ Err Memory)
  unfolding rest_of
  plan_made nodes registers s r names (inl is) made =
      inl (rw (
        names_first,
        both_answer _ _ rest_of nodes registers (answered _ (nodes, registers) names),
        in_turn (sections_of needs (get (codes "sections") d)) (origin_of (get (codes "origin") d)) (planned_of algorithm nodes d) (λ a b c. Ok (drafted nodes registers a b c)),
      ) (settled nodes registers (setting_of needs algorithm nodes d) s r is made))
  plan_made nodes registers s r names (inr is) made =
      inr (subst (λ t. MatchResult t (λ x. IsOkAnd r (λ p. p ≡ plan_of nodes registers x.0 x.1 x.2)) (λ e. r ≡ Err e)) is made)
