-- Lists that are sorted by a number and have each number, and the records of receipts that bear 1, 2, 3 and so on.
use Rattle.std.proofs.Common.{◌≡◌, inl, inr, ℕ, zero, suc, ◌+◌, ◌<◌, ◌≤◌, List, [], ◌∷◌, Some, map, length, slice_get, slice_index_or, refl, sym, ap, subst, arith}
use Rattle.std.specs.List.Sorted.{IsNonDecreasingBy, IsPermutation}
use Rattle.std.proofs.lemmas.List.Sorted.{Contains-permutation, IsPermutation-sym}
use Rattle.std.proofs.lemmas.Option.{same_Some}
use Rattle.mx_stamps.specs.Lists.{IsIn}
use Rattle.mx_stamps.proofs.Lists.{dec_eq, none_is_no_some}
use Rattle.mx_journal.specs.declared.receipts.Receipt.{Receipt}
use Rattle.mx_journal.specs.Drafted.{record_of}
use Rattle.mx_journal.specs.Records.{Ascending}

module _ {A B : Type 0} (f : A → B) where
  pub in_map : (xs : List A) (x : A) → IsIn x xs → IsIn (f x) (map f xs)
  in_map [] x h = absurd h
  in_map (y ∷ xs) x (inl e) = inl (ap f e)
  in_map (y ∷ xs) x (inr h) = inr (in_map xs x h)

  pub of_map : (xs : List A) (y : B) → IsIn y (map f xs) → (x : A) × IsIn x xs × (y ≡ f x)
  of_map [] y h = absurd h
  of_map (x ∷ xs) y (inl e) = (x, inl refl, e)
  of_map (x ∷ xs) y (inr h) = let r = of_map xs y h in (r.0, inr r.1, r.2)

module _ {X : Type 0} where
  -- where in a list it is
  place : (xs : List X) (y : X) → IsIn y xs → (j : ℕ) × (j < length xs) × ((d : X) → slice_index_or xs j d ≡ y)
  place [] y h = absurd h
  place (x ∷ xs) y (inl e) = (0, omega arith, λ d. sym e)
  place (x ∷ xs) y (inr h) = let r = place xs y h in (suc r.0, (let l = r.1 in omega arith), λ d. r.2 d)

  has_place : (xs : List X) (j : ℕ) (y d : X) → j < length xs → slice_index_or xs j d ≡ y → IsIn y xs
  has_place [] j y d low is = absurd (omega arith)
  has_place (x ∷ xs) zero y d low is = inl (sym is)
  has_place (x ∷ xs) (suc j) y d low is = inr (has_place xs j y d (omega arith) is)

  -- the same elements, in another order
  pub in_other_order : (xs ys : List X) (x : X) → IsPermutation xs ys → IsIn x xs → IsIn x ys
  in_other_order xs ys x moved h =
      let p = place xs x h in
      let c = Contains-permutation xs ys x moved (p.0, p.1, p.2 x) in
      has_place ys c.0 x x c.1 c.2

  pub in_first_order : (xs ys : List X) (x : X) → IsPermutation xs ys → IsIn x ys → IsIn x xs
  in_first_order xs ys x moved h = in_other_order ys xs x (IsPermutation-sym xs ys moved) h

module _ {X : Type 0} (f : X → ℕ) where
  -- f is at no later element less than at an earlier one
  abbrev Rises : List X → Type 0
  Rises [] = Unit {0}
  Rises (x ∷ xs) = ((y : X) → IsIn y xs → f x ≤ f y) × Rises xs

  -- f has each of m values above a
  abbrev pub HasEach : ℕ → ℕ → List X → Type 0
  HasEach a m xs = (n : ℕ) → a < n → n ≤ a + m → (x : X) × IsIn x xs × (f x ≡ n)

  rises : (xs : List X) → IsNonDecreasingBy f xs → Rises xs
  rises [] up = tt
  rises (x ∷ xs) up = (
    (λ y h. let r = place xs y h in subst (λ (z : X). f x ≤ f z) (r.2 x) (up 0 (suc r.0) x (omega arith) (let l = r.1 in omega arith))),
    rises xs (λ i j d le low. up (suc i) (suc j) d (omega arith) (omega arith)),
  )

  -- without its first element, where that is none of them
  has_others : (a b m k : ℕ) (x : X) (xs : List X) → HasEach a m (x ∷ xs) → f x ≤ b → a ≤ b → b + k ≤ a + m → HasEach b k xs
  has_others a b m k x xs all low ab fits n above below =
      let r = all n (omega arith) (omega arith) in elim r.1 [
        | inl e ↦ absurd (let same : f r.0 ≡ f x = ap f e in let is = r.2 in omega arith)
        | inr h ↦ (r.0, h, r.2)
      ]

  -- the first is not above the least of them
  first_low : (a m : ℕ) (x : X) (xs : List X) → Rises (x ∷ xs) → HasEach a (suc m) (x ∷ xs) → f x ≤ suc a
  first_low a m x xs up all =
      let r = all (suc a) (omega arith) (omega arith) in elim r.1 [
        | inl e ↦ let same : f r.0 ≡ f x = ap f e in let is = r.2 in omega arith
        | inr h ↦ let le = up.0 r.0 h in let is = r.2 in omega arith
      ]

  -- a list that has so many values is at least so long
  long_enough : (a m : ℕ) (xs : List X) → Rises xs → HasEach a m xs → m ≤ length xs
  long_enough a zero xs up all = omega arith
  long_enough a (suc m) [] up all = absurd (all (suc a) (omega arith) (omega arith)).1
  long_enough a (suc m) (x ∷ xs) up all = elim (dec_eq (f x) (suc a)) [
    | inl e ↦ let l = long_enough (suc a) m xs up.1 (has_others a (suc a) (suc m) m x xs all (omega arith) (omega arith) (omega arith)) in omega arith
    | inr ne ↦
        let low = first_low a m x xs up all in
        let l = long_enough a (suc m) xs up.1 (has_others a a (suc m) (suc m) x xs all (omega arith) (omega arith) (omega arith)) in omega arith
  ]

  -- so the first of a list that is just so long has the least
  first_least : (a m : ℕ) (x : X) (xs : List X) → Rises (x ∷ xs) → HasEach a (suc m) (x ∷ xs) → length xs ≡ m → f x ≡ suc a
  first_least a m x xs up all size = elim (dec_eq (f x) (suc a)) [
    | inl e ↦ e
    | inr ne ↦ absurd
        (let low = first_low a m x xs up all in
        let l = long_enough a (suc m) xs up.1 (has_others a a (suc m) (suc m) x xs all (omega arith) (omega arith) (omega arith)) in omega arith)
  ]

  -- and each stands at its place
  in_turn : (a m : ℕ) (xs : List X) → Rises xs → HasEach a m xs → length xs ≡ m → (k : ℕ) (x : X) → slice_get xs k ≡ Some x → f x ≡ suc (a + k)
  in_turn a m [] up all size k x at = absurd (none_is_no_some x at)
  in_turn a zero (y ∷ xs) up all size k x at = absurd (omega arith)
  in_turn a (suc m) (y ∷ xs) up all size zero x at =
      let first = first_least a m y xs up all (omega arith) in
      let same : f y ≡ f x = ap f (same_Some y x at) in omega arith
  in_turn a (suc m) (y ∷ xs) up all size (suc k) x at =
      let first = first_least a m y xs up all (omega arith) in
      let r = in_turn (suc a) m xs up.1 (has_others a (suc a) (suc m) m y xs all (omega arith) (omega arith) (omega arith)) (omega arith) k x at in omega arith

  pub sorted_in_turn : (xs : List X) → IsNonDecreasingBy f xs → HasEach 0 (length xs) xs → (k : ℕ) (x : X) → slice_get xs k ≡ Some x → f x ≡ suc k
  sorted_in_turn xs up all k x at = let r = in_turn 0 (length xs) xs (rises xs up) all refl k x at in omega arith

-- their records ascend
numbers_ascend : (a : ℕ) (rs : List Receipt) → ((k : ℕ) (r : Receipt) → slice_get rs k ≡ Some r → r.number ≡ suc (a + k)) → Ascending (suc a) (map record_of rs)
numbers_ascend a [] each = tt
numbers_ascend a (r ∷ rs) each =
    let first : r.number ≡ suc a = (let e = each 0 r refl in omega arith) in (
      (omega arith),
      subst (λ n. Ascending (suc n) (map record_of rs)) (sym first) (numbers_ascend (suc a) rs (λ k x at. let e = each (suc k) x at in omega arith)),
    )

pub records_ascend : (rs : List Receipt) → ((k : ℕ) (r : Receipt) → slice_get rs k ≡ Some r → r.number ≡ suc k) → Ascending 1 (map record_of rs)
records_ascend rs each = numbers_ascend 0 rs (λ k r at. let e = each k r at in omega arith)
