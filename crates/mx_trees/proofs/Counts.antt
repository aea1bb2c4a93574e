-- How many elements of a list meet a test.
use Rattle.std.proofs.Common.{ℕ, zero, suc, ◌+◌, ◌<◌, ◌≤◌, ◌≡◌, inl, inr, Bool, true, false, cond, List, [], ◌∷◌, length, get_or, replicate, slice_set, refl, sym, subst, arith}
use Rattle.std.specs.List.{count_by}
use Rattle.std.proofs.lemmas.List.Sums.{sum_by-cons, sum_by-set, count_by-le-length}
use Rattle.mx_stamps.specs.Lists.{IsIn}

unit_yes : (b : Bool) → b ≡ true → ◌≡◌ {A = ℕ} (cond b 1 0) 1
unit_yes true e = refl
unit_yes false e = let no : ⊥ = cc in absurd no

unit_no : (b : Bool) → b ≡ false → ◌≡◌ {A = ℕ} (cond b 1 0) 0
unit_no true e = let no : ⊥ = cc in absurd no
unit_no false e = refl

unit_grows : (a b : Bool) → (a ≡ true → b ≡ true) → cond a 1 0 ≤ cond b 1 0
unit_grows true true g = omega arith
unit_grows true false g = let bad : false ≡ true = g refl in let no : ⊥ = cc in absurd no
unit_grows false true g = omega arith
unit_grows false false g = omega arith

count_cons : {X : Type 0} (p : X → Bool) (x : X) (xs : List X) → count_by p (x ∷ xs) ≡ cond (p x) 1 0 + count_by p xs
count_cons p x xs = sum_by-cons (λ y. cond (p y) 1 0) x xs

-- a test that is passed wherever another one is counts at least as many elements
pub count_grows : {X : Type 0} (p q : X → Bool) → ((x : X) → p x ≡ true → q x ≡ true) → (xs : List X) → count_by p xs ≤ count_by q xs
count_grows p q f [] = omega arith
count_grows p q f (x ∷ xs) =
    let a = count_cons p x xs in
    let b = count_cons q x xs in
    let h = unit_grows (p x) (q x) (f x) in
    let k = count_grows p q f xs in
    omega arith

-- and it counts more, where an element passes it and not the other
pub count_rises : {X : Type 0} (p q : X → Bool) → ((x : X) → p x ≡ true → q x ≡ true) → (y : X) → p y ≡ false → q y ≡ true → (xs : List X) → IsIn y xs → count_by p xs + 1 ≤ count_by q xs
count_rises p q f y n t [] i = absurd i
count_rises {X} p q f y n t (x ∷ xs) (inl e) =
    let a = count_cons p x xs in
    let b = count_cons q x xs in
    let px = unit_no (p x) (let P : X → Type 0 = λ z. p z ≡ false in subst P e n) in
    let qx = unit_yes (q x) (let P : X → Type 0 = λ z. q z ≡ true in subst P e t) in
    let k = count_grows p q f xs in
    omega arith
count_rises p q f y n t (x ∷ xs) (inr i) =
    let a = count_cons p x xs in
    let b = count_cons q x xs in
    let h = unit_grows (p x) (q x) (f x) in
    let k = count_rises p q f y n t xs i in
    omega arith

head_met : (b : Bool) (n m : ℕ) → suc n ≤ cond b 1 0 + m → m ≤ n → b ≡ true
head_met true n m h l = refl
head_met false n m h l = let no : ⊥ = omega arith in absurd no

-- where as many elements pass a test as there are, each one does
pub count_whole : {X : Type 0} (p : X → Bool) (xs : List X) → length xs ≤ count_by p xs → (y : X) → IsIn y xs → p y ≡ true
count_whole p [] h y i = absurd i
count_whole {X} p (x ∷ xs) h y (inl e) =
    let a = count_cons p x xs in
    let l = count_by-le-length p xs in
    subst (λ (z : X). p z ≡ true) (sym e) (head_met (p x) (length xs) (count_by p xs) (omega arith) l)
count_whole p (x ∷ xs) h y (inr i) =
    let a = count_cons p x xs in
    let l = unit_grows (p x) true (λ e. refl) in
    count_whole p xs (omega arith) y i

-- the count after one more place has become true
pub count_set : (xs : List Bool) (i : ℕ) → i < length xs → get_or xs i false ≡ false → count_by (λ r. r) (slice_set xs i true) ≡ count_by (λ r. r) xs + 1
count_set xs i lt e =
    let a : count_by (λ r. r) (slice_set xs i true) + cond (get_or xs i false) 1 0 ≡ count_by (λ r. r) xs + 1 = sum_by-set (λ r. cond r 1 0) xs i true false lt in
    let b = unit_no (get_or xs i false) e in
    omega arith

-- at least n places are true where the first n are
pub count_first : (xs : List Bool) (n : ℕ) → n ≤ length xs → ((i : ℕ) → i < n → get_or xs i false ≡ true) → n ≤ count_by (λ r. r) xs
count_first xs zero l f = omega arith
count_first [] (suc n) l f = omega arith
count_first (x ∷ xs) (suc n) l f =
    let a = count_cons (λ r. r) x xs in
    let here = unit_yes x (f zero (omega arith)) in
    let k = count_first xs n (omega arith) (λ i h. f (suc i) (omega arith)) in
    omega arith

pub count_none : (n : ℕ) → count_by (λ r. r) (replicate n false) ≡ 0
count_none zero = refl
count_none (suc n) =
    let a = count_cons (λ r. r) false (replicate n false) in
    let k = count_none n in
    omega arith
