-- Lemmas on lists: membership, writes at a place, walks by place, each_below and greatest.
use Rattle.std.proofs.Common.{replicate, ℕ, zero, suc, ◌<◌, ◌≤◌, ◌+◌, ◌≡◌, ◌≢◌, ◌⊎◌, inl, inr, List, [], ◌∷◌, ◌++◌, Some, None, max, slice_get, slice_set, length, get_or, take, drop, refl, sym, ◌∙◌, ap, subst, arith}
use Rattle.std.proofs.lemmas.Option.{same_Some, get_or_from_slice_get, slice_get_within}
use Rattle.std.proofs.lemmas.List.{at_drop_more, length-replicate, length-set, take-append-le, take_more}
use Rattle.std.proofs.lemmas.Grind.{common_steps}
use Rattle.mx_stamps.specs.Lists.{IsIn, each_below, greatest}
pub use Rattle.mx_stamps.proofs.Choices.{cond_case, and_true, and_false, or_false, not_true}

pub none_is_no_some : {X : Type 0} (x : X) → None ≡ Some x → ⊥
none_is_no_some x e = cc

pub dec_eq : (i j : ℕ) → (i ≡ j) ⊎ (i ≢ j)
dec_eq zero zero = inl refl
dec_eq zero (suc j) = inr (λ e. cc)
dec_eq (suc i) zero = inr (λ e. cc)
dec_eq (suc i) (suc j) = elim (dec_eq i j) [ inl e ↦ inl (ap suc e) | inr ne ↦ inr (λ e. ne (omega arith)) ]

pub in_left : {X : Type 0} (x : X) (xs ys : List X) → IsIn x xs → IsIn x (xs ++ ys)
in_left x [] ys h = absurd h
in_left x (y ∷ xs) ys (inl e) = inl e
in_left x (y ∷ xs) ys (inr h) = inr (in_left x xs ys h)

pub in_right : {X : Type 0} (x : X) (xs ys : List X) → IsIn x ys → IsIn x (xs ++ ys)
in_right x [] ys h = h
in_right x (y ∷ xs) ys h = inr (in_right x xs ys h)

pub in_append : {X : Type 0} (x : X) (xs ys : List X) → IsIn x (xs ++ ys) → IsIn x xs ⊎ IsIn x ys
in_append x [] ys h = inr h
in_append x (y ∷ xs) ys (inl e) = inl (inl e)
in_append x (y ∷ xs) ys (inr h) = elim (in_append x xs ys h) [ inl a ↦ inl (inr a) | inr b ↦ inr b ]

-- the state that a step gives its node
pub get_set_same : {X : Type 0} (xs : List X) (i : ℕ) (s v : X) → slice_get xs i ≡ Some s → slice_get (slice_set xs i v) i ≡ Some v
get_set_same [] i s v h = absurd (none_is_no_some s h)
get_set_same (x ∷ xs) zero s v h = refl
get_set_same (x ∷ xs) (suc i) s v h = get_set_same xs i s v h

pub get_set_other : {X : Type 0} (xs : List X) (i j : ℕ) (v : X) → j ≢ i → slice_get (slice_set xs i v) j ≡ slice_get xs j
get_set_other [] i j v ne = refl
get_set_other (x ∷ xs) zero zero v ne = absurd (ne refl)
get_set_other (x ∷ xs) zero (suc j) v ne = refl
get_set_other (x ∷ xs) (suc i) zero v ne = refl
get_set_other (x ∷ xs) (suc i) (suc j) v ne = get_set_other xs i j v (λ e. ne (ap suc e))

pub length_set : {X : Type 0} (xs : List X) (i : ℕ) (v : X) → length (slice_set xs i v) ≡ length xs
length_set xs i v = length-set xs i v

-- a node after a step of node i is node i in its new state, or another in its old state
pub get_after : {X : Type 0} (xs : List X) (i j : ℕ) (s v t : X) → slice_get xs i ≡ Some s → slice_get (slice_set xs i v) j ≡ Some t → ((j ≡ i) × (t ≡ v)) ⊎ ((j ≢ i) × (slice_get xs j ≡ Some t))
get_after xs i j s v t h g = elim (dec_eq j i) [
  | inl e ↦ inl (e, same_Some t v (sym (subst (λ k. slice_get (slice_set xs i v) k ≡ Some t) e g) ∙ get_set_same xs i s v h))
  | inr ne ↦ inr (ne, sym (get_set_other xs i j v ne) ∙ g)
]

pub length_each_below : {X : Type 0} (f : ℕ → X) (n : ℕ) → length (each_below f n) ≡ n
length_each_below f zero = refl
length_each_below f (suc n) = grind (arith, common_steps, length_each_below f n)

pub get_snoc : {X : Type 0} (xs : List X) (y : X) (i : ℕ) (t : X) → slice_get (xs ++ y ∷ []) i ≡ Some t → (slice_get xs i ≡ Some t) ⊎ ((i ≡ length xs) × (t ≡ y))
get_snoc [] y zero t h = inr (refl, sym (same_Some y t h))
get_snoc [] y (suc i) t h = absurd (none_is_no_some t h)
get_snoc (x ∷ xs) y zero t h = inl h
get_snoc (x ∷ xs) y (suc i) t h = elim (get_snoc xs y i t h) [ inl a ↦ inl a | inr b ↦ inr (ap suc b.0, b.1) ]

pub get_each_below : {X : Type 0} (f : ℕ → X) (n i : ℕ) (t : X) → slice_get (each_below f n) i ≡ Some t → (i < n) × (t ≡ f i)
get_each_below f zero i t h = absurd (none_is_no_some t h)
get_each_below f (suc n) i t h = elim (get_snoc (each_below f n) (f n) i t h) [
  | inl a ↦ let r = get_each_below f n i t a in (omega (arith, r.0), r.1)
  | inr b ↦ let e : i ≡ n = b.0 ∙ length_each_below f n in (omega (arith, e), b.1 ∙ ap f (sym e))
]

-- `greatest` is at least each value, and is one of them or 0
pub greatest_above : {X : Type 0} (f : X → ℕ) (xs : List X) (i : ℕ) (s : X) → slice_get xs i ≡ Some s → f s ≤ greatest f xs
greatest_above f [] i s h = absurd (none_is_no_some s h)
greatest_above f (x ∷ xs) zero s h = let e : x ≡ s = same_Some x s h in let k : f x ≡ f s = ap f e in omega arith
greatest_above f (x ∷ xs) (suc i) s h = let k = greatest_above f xs i s h in omega arith

pub greatest_below : {X : Type 0} (f : X → ℕ) (xs : List X) (m : ℕ) → ((i : ℕ) (s : X) → slice_get xs i ≡ Some s → f s ≤ m) → greatest f xs ≤ m
greatest_below f [] m h = omega arith
greatest_below f (x ∷ xs) m h =
    let a : f x ≤ m = h 0 x refl in
    let b : greatest f xs ≤ m = greatest_below f xs m (λ i s g. h (suc i) s g) in
    omega arith

-- a step that keeps the value of f keeps the greatest value of f
pub greatest_same : {X : Type 0} (f : X → ℕ) (xs : List X) (i : ℕ) (s v : X) → slice_get xs i ≡ Some s → f v ≡ f s → greatest f (slice_set xs i v) ≡ greatest f xs
greatest_same f [] i s v h e = refl
greatest_same f (x ∷ xs) zero s v h e = let k : f x ≡ f s = ap f (same_Some x s h) in let q : f v ≡ f x = e ∙ sym k in ap (λ n. max n (greatest f xs)) q
greatest_same f (x ∷ xs) (suc i) s v h e = ap (λ n. max (f x) n) (greatest_same f xs i s v h e)

-- a step to a value above the greatest makes that value the greatest
pub greatest_raised : {X : Type 0} (f : X → ℕ) (xs : List X) (i : ℕ) (s v : X) → slice_get xs i ≡ Some s → greatest f xs ≤ f v → greatest f (slice_set xs i v) ≡ f v
greatest_raised f [] i s v h l = absurd (none_is_no_some s h)
greatest_raised f (x ∷ xs) zero s v h l = omega arith
greatest_raised f (x ∷ xs) (suc i) s v h l = let k : greatest f (slice_set xs i v) ≡ f v = greatest_raised f xs i s v h (omega arith) in omega arith

pub append_nil : {X : Type 0} (xs : List X) → xs ++ [] ≡ xs
append_nil [] = refl
append_nil (x ∷ xs) = ap (λ ys. x ∷ ys) (append_nil xs)

pub set_itself : {X : Type 0} (xs : List X) (i : ℕ) (s : X) → slice_get xs i ≡ Some s → slice_set xs i s ≡ xs
set_itself [] i s h = refl
set_itself (x ∷ xs) zero s h = ap (λ y. y ∷ xs) (sym (same_Some x s h))
set_itself (x ∷ xs) (suc i) s h = ap (λ ys. x ∷ ys) (set_itself xs i s h)

-- an element after a write is the one written, or was there before
pub get_or_after : {X : Type 0} (xs : List X) (n j : ℕ) (v d x : X) → get_or (slice_set xs n v) j d ≡ x → ((j ≡ n) × (v ≡ x)) ⊎ (get_or xs j d ≡ x)
get_or_after [] n j v d x h = inr h
get_or_after (y ∷ ys) zero zero v d x h = inl (refl, h)
get_or_after (y ∷ ys) zero (suc j) v d x h = inr h
get_or_after (y ∷ ys) (suc n) zero v d x h = inr h
get_or_after (y ∷ ys) (suc n) (suc j) v d x h = elim (get_or_after ys n j v d x h) [ inl p ↦ inl (ap suc p.0, p.1) | inr q ↦ inr q ]

pub get_or_replicate : {X : Type 0} (n j : ℕ) (d : X) → get_or (replicate n d) j d ≡ d
get_or_replicate zero j d = refl
get_or_replicate (suc n) zero d = refl
get_or_replicate (suc n) (suc j) d = get_or_replicate n j d

pub length_replicate : {X : Type 0} (n : ℕ) (x : X) → length (replicate n x) ≡ n
length_replicate n x = length-replicate n x

pub set_set : {X : Type 0} (xs : List X) (i : ℕ) (u v : X) → slice_set (slice_set xs i u) i v ≡ slice_set xs i v
set_set [] i u v = refl
set_set (x ∷ xs) zero u v = refl
set_set (x ∷ xs) (suc i) u v = ap (λ ys. x ∷ ys) (set_set xs i u v)

pub append_append : {X : Type 0} (xs ys zs : List X) → (xs ++ ys) ++ zs ≡ xs ++ (ys ++ zs)
append_append [] ys zs = refl
append_append (x ∷ xs) ys zs = ap (λ r. x ∷ r) (append_append xs ys zs)

pub get_append_left : {X : Type 0} (xs ys : List X) (i : ℕ) (t : X) → slice_get xs i ≡ Some t → slice_get (xs ++ ys) i ≡ Some t
get_append_left [] ys i t h = absurd (none_is_no_some t h)
get_append_left (x ∷ xs) ys zero t h = h
get_append_left (x ∷ xs) ys (suc i) t h = get_append_left xs ys i t h

pub get_at_end : {X : Type 0} (xs : List X) (y : X) → slice_get (xs ++ y ∷ []) (length xs) ≡ Some y
get_at_end [] y = refl
get_at_end (x ∷ xs) y = get_at_end xs y

pub has_each_below : {X : Type 0} (f : ℕ → X) (n i : ℕ) → i < n → slice_get (each_below f n) i ≡ Some (f i)
has_each_below f zero i lt = absurd (omega arith)
has_each_below f (suc n) i lt = elim (dec_eq i n) [
  | inl e ↦ subst (λ k. slice_get (each_below f n ++ f n ∷ []) k ≡ Some (f k)) (sym e) (subst (λ k. slice_get (each_below f n ++ f n ∷ []) k ≡ Some (f n)) (length_each_below f n) (get_at_end (each_below f n) (f n)))
  | inr ne ↦ get_append_left (each_below f n) (f n ∷ []) i (f i) (has_each_below f n i (omega arith))
]

-- the element at an index is in the list
pub in_get : {X : Type 0} (xs : List X) (i : ℕ) (x : X) → slice_get xs i ≡ Some x → IsIn x xs
in_get [] i x h = absurd (none_is_no_some x h)
in_get (y ∷ ys) zero x h = inl (sym (same_Some y x h))
in_get (y ∷ ys) (suc i) x h = inr (in_get ys i x h)

-- the element at a place below the length is a member
pub in_at : {X : Type 0} (xs : List X) (i : ℕ) (x : X) → i < length xs → x ≡ get_or xs i x → IsIn x xs
in_at [] i x l e = absurd (omega arith)
in_at (y ∷ ys) zero x l e = inl e
in_at (y ∷ ys) (suc i) x l e = inr (in_at ys i x (omega arith) e)

-- a member of the first elements is a member
pub in_first : {X : Type 0} (count : ℕ) (xs : List X) (x : X) → IsIn x (take count xs) → IsIn x xs
in_first zero xs x h = absurd h
in_first (suc count) [] x h = absurd h
in_first (suc count) (y ∷ ys) x (inl e) = inl e
in_first (suc count) (y ∷ ys) x (inr h) = inr (in_first count ys x h)

-- the rest of a list from a place on begins with the element at that place
pub drop_here : {X : Type 0} (xs : List X) (i : ℕ) (x : X) → i < length xs → x ≡ get_or xs i x → drop i xs ≡ x ∷ drop (i + 1) xs
drop_here xs i x l e = at_drop_more (λ zs. zs) xs i x l ∙ ap (λ z. z ∷ drop (i + 1) xs) (sym e)

-- the part of a list up to a place, with the element at that place
pub take_here : {X : Type 0} (xs : List X) (i : ℕ) (x : X) → i < length xs → x ≡ get_or xs i x → take (i + 1) xs ≡ take i xs ++ x ∷ []
take_here xs i x l e = take_more xs i x l ∙ ap (λ z. take i xs ++ z ∷ []) (sym e)

-- the same two facts, where the element was looked up

pub drop_at : {X : Type 0} (xs : List X) (i : ℕ) (x : X) → slice_get xs i ≡ Some x → drop i xs ≡ x ∷ drop (i + 1) xs
drop_at xs i x h = drop_here xs i x (slice_get_within xs i x h) (sym (get_or_from_slice_get xs i x x h))

pub take_at : {X : Type 0} (xs : List X) (i : ℕ) (x : X) → slice_get xs i ≡ Some x → take (i + 1) xs ≡ take i xs ++ x ∷ []
take_at xs i x h = take_here xs i x (slice_get_within xs i x h) (sym (get_or_from_slice_get xs i x x h))

-- cutting xs to n elements before appending changes nothing, where the whole is cut to n anyway
pub cut_twice : {X : Type 0} (n : ℕ) (xs ys : List X) → take n (take n xs ++ ys) ≡ take n (xs ++ ys)
cut_twice zero xs ys = refl
cut_twice (suc n) [] ys = refl
cut_twice (suc n) (x ∷ xs) ys = ap (λ l. x ∷ l) (cut_twice n xs ys)

-- where xs has n elements already, what is appended does not matter to the first n
pub cut_full : {X : Type 0} (n : ℕ) (xs ys zs : List X) → n ≤ length xs → take n (xs ++ ys) ≡ take n (xs ++ zs)
cut_full n xs ys zs l = take-append-le n xs ys l ∙ sym (take-append-le n xs zs l)
