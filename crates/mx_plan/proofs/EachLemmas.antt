-- Reading the elements of a list one by one.
use Rattle.std.proofs.Common.{◌≡◌, ◌∙◌, Global, IfErr, IfOk, IsErr, IsErrAnd, Vec, inl, subst, ℕ, ◌+◌, ◌<◌, List, [], ◌∷◌, ◌++◌, length, map, drop, get_or, ap, sym, refl, append_assoc, add-one, drop-cons, ◌≤◌, Result, Ok, Err}
use Rattle.std.proofs.lemmas.List.{drop_all}
use Rattle.mx_plan.specs.Values.{Gives, and_then, each_from}
use Rattle.mx_plan.specs.declared.faults.PlanFault.{PlanFault}

-- the values read so far, and then the rest
abbrev pub after : {B : Type 0} → List B → Result (List B) PlanFault → Result (List B) PlanFault
after done (Ok ys) = Ok (done ++ ys)
after done (Err e) = Err e

pub after-nil : {B : Type 0} (r : Result (List B) PlanFault) → r ≡ after [] r
after-nil (Ok ys) = refl
after-nil (Err e) = refl

pub after_one : {B : Type 0} (done : List B) (y : B) (r : Result (List B) PlanFault)
    → after done (and_then r (λ ys. Ok (y ∷ ys))) ≡ after (done ++ y ∷ []) r
after_one done y (Ok ys) = ap Ok (sym (append_assoc done (y ∷ []) ys))
after_one done y (Err f) = refl

module _ {X A B : Type 0} (view : X → A) (f : ℕ → A → Result B PlanFault) (xs : List X) where
  -- the values of the elements from the k-th on
  abbrev pub rest : ℕ → Result (List B) PlanFault
  rest k = each_from f k (map view (drop k xs))

  rest_one : (k : ℕ) (d : X) → k < length xs
      → rest k ≡ and_then (f k (view (get_or xs k d))) (λ y. and_then (rest (k + 1)) (λ ys. Ok (y ∷ ys)))
  unfolding each_from
  rest_one k d h = ap (λ l. each_from f k (map view l)) (drop-cons xs k d h ∙ ap (λ n. get_or xs k d ∷ drop n xs) (sym (add-one k)))

  pub rest_ok : (done : List B) (k : ℕ) (d : X) (y : B) → k < length xs
      → f k (view (get_or xs k d)) ≡ Ok y → after done (rest k) ≡ after (done ++ y ∷ []) (rest (k + 1))
  rest_ok done k d y h is =
      ap (after done) (rest_one k d h ∙ ap (λ r. and_then r (λ x. and_then (rest (k + 1)) (λ ys. Ok (x ∷ ys)))) is)
      ∙ after_one done y (rest (k + 1))

  pub rest_err : (done : List B) (k : ℕ) (d : X) (e : PlanFault) → k < length xs
      → f k (view (get_or xs k d)) ≡ Err e → after done (rest k) ≡ Err e
  rest_err done k d e h is =
      ap (after done) (rest_one k d h ∙ ap (λ r. and_then r (λ x. and_then (rest (k + 1)) (λ ys. Ok (x ∷ ys)))) is)

  pub rest_end : (k : ℕ) → length xs ≤ k → rest k ≡ Ok []
  unfolding each_from
  rest_end k h = ap (λ l. each_from f k (map view l)) (drop_all k xs h)

-- a fault of an element is returned as the fault of the list
pub gives_fault : {B : Type 0} (wanted : Result (List B) PlanFault) (e : PlanFault) (answer : Result (Vec B Global) PlanFault) → IsErrAnd answer (λ f. f ≡ e) → wanted ≡ Err e → Gives wanted answer
gives_fault wanted e (Ok list) is why = absurd is
gives_fault wanted e (Err f) is why = inl (subst (λ (x : PlanFault). wanted ≡ Err x) (sym is) why)

-- a failure has no value
pub no_value : {X E : Type 0} (r : Result X E) (P : X → Type 0) → IsErr r → IfOk r P
no_value (Ok x) P e = absurd (let f = e in cc)
no_value (Err fault) P e = tt

-- a fault that is passed on is the fault
pub is_fault : {T U : Type 0} (wanted : Result U PlanFault) (e : PlanFault) (answer : Result T PlanFault) → IsErrAnd answer (λ f. f ≡ e) → wanted ≡ Err e → IfErr answer (λ f. wanted ≡ Err f)
is_fault wanted e (Ok x) is why = tt
is_fault wanted e (Err f) is why = subst (λ (x : PlanFault). wanted ≡ Err x) (sym is) why
