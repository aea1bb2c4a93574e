-- Members of a list, taken one by one.
use Rattle.std.proofs.Common.{ℕ, zero, suc, ◌+◌, ◌%◌, ◌<◌, ◌≤◌, ◌≡◌, ◌⊎◌, inl, inr, ◌↔◌, Bool, true, false, List, [], ◌∷◌, ◌++◌, length, get_or, take, refl, sym, ◌∙◌, ap, subst, arith, Some, None, cond, find, nat_le, Vec}
use Rattle.std.proofs.lemmas.Bool.Decides.{nat_tests}
use Rattle.std.proofs.lemmas.Option.{same_Some}
use Rattle.std.specs.declared.alloc.Global.{Global}
use Rattle.std.proofs.lemmas.List.{take_more, get_or-map}
use Rattle.mx_stamps.specs.Lists.{IsIn}
use Rattle.mx_stamps.proofs.Lists.{in_left, in_right, in_append, none_is_no_some}
use Rattle.mx_stamps.proofs.Choices.{bool_cases}
use Rattle.mx_quorums.specs.Lists.{lists_of, list_of, IsListed, IsFirstStranger}
use Rattle.mx_quorums.specs.Shapes.{IsShifted}

-- an element is in its list
pub in_at : (xs : List ℕ) (i : ℕ) → i < length xs → IsIn (get_or xs i 0) xs
in_at [] i lt = absurd (omega arith)
in_at (x ∷ xs) zero lt = inl refl
in_at (x ∷ xs) (suc i) lt = inr (in_at xs i (omega arith))

-- the first i + 1 elements are the first i and the one at i
pub in_more : (xs : List ℕ) (i : ℕ) → i < length xs → (x : ℕ)
    → IsIn x (take (i + 1) xs) ↔ (IsIn x (take i xs) ⊎ (x ≡ get_or xs i 0))
in_more xs i lt x =
    let last : List ℕ = get_or xs i 0 ∷ [] in
    let front : take (i + 1) xs ≡ take i xs ++ last = take_more xs i 0 lt in
    let there : IsIn x (take (i + 1) xs) → IsIn x (take i xs) ⊎ (x ≡ get_or xs i 0) = λ h.
    elim (in_append x (take i xs) last (subst (IsIn x) front h)) [
      | inl a ↦ inl a
      | inr b ↦ inr (elim b [ inl e ↦ e | inr none ↦ absurd none ])
    ] in
    let back : IsIn x (take i xs) ⊎ (x ≡ get_or xs i 0) → IsIn x (take i xs ++ last) = λ q.
    elim q [
      | inl a ↦ in_left x (take i xs) last a
      | inr e ↦ in_right x (take i xs) last (inl e)
    ] in
    (there, (λ q. subst (IsIn x) (sym front) (back q)))

-- one more difference is one more node
pub shifted_more : (n : ℕ) (ds : List ℕ) (i k : ℕ) → k < length ds → (j : ℕ)
    → IsShifted n (take (k + 1) ds) i j ↔ (IsShifted n (take k ds) i j ⊎ (j ≡ (i + get_or ds k 0) % n))
shifted_more n ds i k lt j =
    let more = in_more ds k lt in
    let there : IsShifted n (take (k + 1) ds) i j → IsShifted n (take k ds) i j ⊎ (j ≡ (i + get_or ds k 0) % n) = λ s.
    elim ((more s.0).0 s.1) [
      | inl a ↦ inl (s.0, a, s.2)
      | inr same ↦ inr (sym s.2 ∙ ap (λ x. (i + x) % n) same)
    ] in
    let back : IsShifted n (take k ds) i j ⊎ (j ≡ (i + get_or ds k 0) % n) → IsShifted n (take (k + 1) ds) i j = λ q.
    elim q [
      | inl s ↦ (s.0, (more s.0).1 (inl s.1), s.2)
      | inr e ↦ (get_or ds k 0, (more (get_or ds k 0)).1 (inr refl), sym e)
    ] in
    (there, back)

-- what `find` finds is in the list and passes the test
pub found : (p : ℕ → Bool) (xs : List ℕ) (x : ℕ) → find p xs ≡ Some x → IsIn x xs × (p x ≡ true)
found p [] x h = let bad : ⊥ = cc in absurd bad
found p (y ∷ ys) x h =
    elim (bool_cases (p y)) [
      | inl pass ↦
          let same : y ≡ x = same_Some y x (sym (ap (λ b. cond b (Some y) (find p ys)) pass) ∙ h) in
          (inl (sym same), subst (λ z. p z ≡ true) same pass)
      | inr fail ↦
          let rest = found p ys x (sym (ap (λ b. cond b (Some y) (find p ys)) fail) ∙ h) in
          (inr rest.0, rest.1)
    ]

-- if `find` finds nothing, nothing in the list passes the test
pub not_found : (p : ℕ → Bool) (xs : List ℕ) (x : ℕ) → find p xs ≡ None → IsIn x xs → p x ≡ false
not_found p [] x h here = absurd here
not_found p (y ∷ ys) x h here =
    elim (bool_cases (p y)) [
      | inl pass ↦ absurd (none_is_no_some y (sym h ∙ ap (λ b. cond b (Some y) (find p ys)) pass))
      | inr fail ↦
          elim here [
            | inl e ↦ subst (λ z. p z ≡ false) (sym e) fail
            | inr rest ↦ not_found p ys x (sym (ap (λ b. cond b (Some y) (find p ys)) fail) ∙ h) rest
          ]
    ]

-- the list of a vector that was read
pub list_read : (vectors : List (Vec ℕ Global)) (i : ℕ) (v : Vec ℕ Global) → i < length vectors
    → v ≡ get_or vectors i v → list_of (lists_of vectors) i ≡ v.items
list_read vectors i v lt is = get_or-map (λ w. w.items) vectors i v [] lt ∙ ap (λ w. w.items) (sym is)

pub length_lists : (vectors : List (Vec ℕ Global)) → length (lists_of vectors) ≡ length vectors
length_lists [] = refl
length_lists (v ∷ vs) = let e : length (lists_of vs) ≡ length vs = length_lists vs in omega arith

-- only nodes have lists
pub listed_within : (lists : List (List ℕ)) (i j : ℕ) → IsListed lists i j → i < length lists
listed_within [] i j h = absurd h
listed_within (xs ∷ rest) zero j h = omega arith
listed_within (xs ∷ rest) (suc i) j h = let k : i < length rest = listed_within rest i j h in omega arith

-- the first member that is no node, if the lists before have none
pub first_stranger_at : (lists : List (List ℕ)) (n i j : ℕ) → n ≡ length lists → i < length lists
    → ((k : ℕ) → k < i → (m : ℕ) → IsListed lists k m → m < n)
    → find (nat_le n) (list_of lists i) ≡ Some j → IsFirstStranger lists i j
first_stranger_at lists n i j e lt before h =
    let there = found (nat_le n) (list_of lists i) j h in
    let above : n ≤ j = grind (arith, nat_tests, there.1) in
    ((lt, (j, there.0, omega arith), (λ k below w. let less : w.0 < n = before k below w.0 w.1 in omega (arith, w.2))), subst (λ m. find (nat_le m) (list_of lists i) ≡ Some j) e h)

-- if nothing is found, each member is a node
pub all_below : (n : ℕ) (xs : List ℕ) (j : ℕ) → find (nat_le n) xs ≡ None → IsIn j xs → j < n
all_below n xs j h here = let fails : nat_le n j ≡ false = not_found (nat_le n) xs j h here in grind (arith, nat_tests, fails)
