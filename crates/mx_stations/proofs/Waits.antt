-- What waits in a station, before and after its steps.
use Rattle.std.proofs.Common.{◌≡◌, ◌⊎◌, inl, inr, ⊎_elim, true, nat_lt, ℕ, zero, suc, ◌+◌, ◌<◌, ◌≤◌, List, [], ◌∷◌, ◌++◌, Some, length, drop, take, set, slice_get, get_or, min, refl, sym, ap, ◌∙◌, subst, arith, length-append, append-nil, append_assoc}
use Rattle.std.proofs.lemmas.List.{drop_all, take_all, take-append-le, length-take, take-set-le, take_more_set}
use Rattle.std.specs.List.{SwappedAt, refill}
use Rattle.mx_stamps.specs.Lists.{IsIn}
use Rattle.mx_stamps.proofs.Choices.{lt_true}
use Rattle.mx_stamps.proofs.Lists.{in_append, in_first, in_left, in_right, take_at, take_here}
use Rattle.std.proofs.lemmas.Option.{get_or_from_slice_get, slice_get_read, slice_get_within}
use Rattle.mx_stations.specs.declared.answers.PutOut.{PutOut}
use Rattle.mx_stations.specs.Posts.{Post, PutsOut, Waits, post, turned, waiting_after}

-- what waits after one parcel more
pub filled : {A : Type 0} (n : ℕ) (w xs v : List A) (i : ℕ) (x : A) → i < length xs → x ≡ get_or xs i x → v ≡ take n (w ++ take i xs)
    → (length v < n → v ++ x ∷ [] ≡ take n (w ++ take (i + 1) xs)) × (n ≤ length v → v ≡ take n (w ++ take (i + 1) xs))
filled {A} n w xs v i x low here is =
    let a : List A = w ++ take i xs in
    let more : w ++ take (i + 1) xs ≡ a ++ x ∷ [] = ap (λ (z : List A). w ++ z) (take_here xs i x low here) ∙ sym (append_assoc w (take i xs) (x ∷ [])) in
    let long : length v ≡ min n (length a) = ap length is ∙ length-take n a in
    let longer : length (a ++ x ∷ []) ≡ length a + 1 = length-append a (x ∷ []) in (
      (λ few. let whole : take n a ≡ a = take_all n a (omega arith) in ap (λ (z : List A). z ++ x ∷ []) (is ∙ whole) ∙ sym (take_all n (a ++ x ∷ []) (omega arith)) ∙ ap (take n) (sym more)),
      (λ full. is ∙ sym (take-append-le n a (x ∷ []) (omega arith)) ∙ ap (take n) (sym more)),
    )

-- the parcel that a look into a copy of the queue found
pub looked_up : {A : Type 0} (xs ys : List A) (k : ℕ) (x : A) → xs ≡ ys → true ≡ nat_lt k (length xs) → x ≡ get_or xs k x → slice_get ys k ≡ Some x
looked_up {A} xs ys k x same within is = subst (λ (l : List A). slice_get l k ≡ Some x) same (slice_get_read xs (length xs) k x refl (lt_true k (length xs) (sym within)) is)

-- a list that is written whole
pub refilled : {A : Type 0} (xs ws : List A) → length ws ≡ length xs → refill (length xs) xs ws ≡ ws
refilled {A} xs ws many =
    ap (λ (z : List A). take (length xs) (ws ++ z)) (drop_all (length ws) xs (omega (arith, many)))
    ∙ ap (take (length xs)) (append-nil ws)
    ∙ take_all (length xs) ws (omega (arith, many))

-- the front of a queue after its parcel at i was exchanged with the one at k, before it
pub brought : {A : Type 0} (xs ys : List A) (k i : ℕ) (x : A) → k < i → slice_get xs i ≡ Some x → SwappedAt xs ys k i → take (k + 1) ys ≡ take k xs ++ x ∷ []
brought {A} xs ys k i x low there swapped =
    let within : i < length xs = slice_get_within xs i x there in
    ap (take (k + 1)) (swapped.3 x)
    ∙ take-set-le (k + 1) _ i _ (omega (arith, low))
    ∙ take_more_set xs k _ (omega (arith, low, within))
    ∙ ap (λ (z : A). take k xs ++ z ∷ []) (get_or_from_slice_get xs i x x there)

in_set : {A : Type 0} (xs : List A) (n : ℕ) (a y : A) → IsIn y (set xs n a) → (y ≡ a) ⊎ IsIn y xs
in_set [] n a y h = inr h
in_set (x ∷ xs) zero a y (inl e) = inl e
in_set (x ∷ xs) zero a y (inr h) = inr (inr h)
in_set (x ∷ xs) (suc n) a y (inl e) = inr (inl e)
in_set (x ∷ xs) (suc n) a y (inr h) = ⊎_elim (λ e. inl e) (λ l. inr (inr l)) (in_set xs n a y h)

at_in : {A : Type 0} (xs : List A) (k : ℕ) (d : A) → k < length xs → IsIn (get_or xs k d) xs
at_in [] k d low = absurd (omega arith)
at_in (x ∷ xs) zero d low = inl refl
at_in (x ∷ xs) (suc k) d low = inr (at_in xs k d (omega arith))

-- what it has was there
pub brought_among : {A : Type 0} (xs ys : List A) (k i : ℕ) (y : A) → k < i → i < length xs → SwappedAt xs ys k i → IsIn y ys → IsIn y xs
brought_among {A} xs ys k i y low within swapped h =
    ⊎_elim
    (λ e. subst (λ (z : A). IsIn z xs) (sym e) (at_in xs k y (omega (arith, low, within))))
    (λ l. ⊎_elim (λ e. subst (λ (z : A). IsIn z xs) (sym e) (at_in xs i y within)) (λ there. there) (in_set xs k _ y l))
    (in_set _ i _ y (subst (λ (z : List A). IsIn y z) (swapped.3 y) h))

-- and if that was the one itself
pub brought_itself : {A : Type 0} (xs : List A) (k i : ℕ) (x : A) → k ≡ i → slice_get xs i ≡ Some x → take (k + 1) xs ≡ take k xs ++ x ∷ []
brought_itself {A} xs k i x same there = take_at xs k x (subst (λ (n : ℕ). slice_get xs n ≡ Some x) (sym same) there)

pub none_left : {A : Type 0} (xs : List A) → length xs ≡ 0 → xs ≡ []
none_left [] none = refl
none_left (x ∷ xs) none = absurd (omega (arith, none))

in_dropped : {A : Type 0} (n : ℕ) (xs : List A) (x : A) → IsIn x (drop n xs) → IsIn x xs
in_dropped zero xs x h = h
in_dropped (suc n) [] x h = h
in_dropped (suc n) (y ∷ xs) x h = inr (in_dropped n xs x h)

-- what waits once the queue was turned waited before
pub turned_among : {A : Type 0} (index kept : ℕ) (xs : List A) (x : A) → IsIn x (drop index xs ++ take kept xs) → IsIn x xs
turned_among index kept xs x h = ⊎_elim (λ l. in_dropped index xs x l) (λ r. in_first kept xs x r) (in_append x (drop index xs) (take kept xs) h)

module _ {T P : Type 0} where
  -- before the first try
  pub turned_none : (s : Post T P) → turned 0 0 s ≡ s
  turned_none s = ap (λ (w : List (ℕ × P)). post s.table s.nodes s.me w) (append-nil s.waiting)

  -- after the last try
  pub turned_all : (s : Post T P) (index kept : ℕ) → index ≡ length s.waiting → turned index kept s ≡ post s.table s.nodes s.me (take kept s.waiting)
  turned_all s index kept all = ap (λ (w : List (ℕ × P)). post s.table s.nodes s.me (w ++ take kept s.waiting)) (drop_all index s.waiting (omega (arith, all)))

  pub puts_from : (r : PutOut) (s s1 t t1 : Post T P) → s1 ≡ s → t1 ≡ t → PutsOut s1 r t1 → PutsOut s r t
  puts_from r s s1 t t1 same after did = subst (λ (z : Post T P × Post T P). PutsOut z.0 r z.1) (λ i. (same i, after i)) did

module _ {P : Type 0} where
  pub none_wait : (n : ℕ) (sent w : List (ℕ × P)) → w ≡ [] → Waits n sent w
  none_wait n sent w none x h = absurd (subst (λ (z : List (ℕ × P)). IsIn x z) none h)

  -- what an act sends waits behind the others
  pub waits_after : (n : ℕ) (sent sent' w w' out : List (ℕ × P)) → Waits n sent w → ((x : ℕ × P) → IsIn x sent' → x.0 < n) → sent' ≡ sent ++ out → w' ≡ waiting_after w out → Waits n sent' w'
  waits_after n sent sent' w w' out waits within is wait x h =
      let there : IsIn x sent' = subst (λ (z : List (ℕ × P)). IsIn x z) (sym is)
      (⊎_elim
      (λ l. in_left x sent out (waits x l).0)
      (λ r. in_right x sent out r)
      (in_append x w out (in_first 64 (w ++ out) x (subst (λ (z : List (ℕ × P)). IsIn x z) wait h)))) in
      (there, within x there)

  -- after an exchange
  pub waits_still : (n : ℕ) (sent sent' w w' : List (ℕ × P)) → Waits n sent w → sent' ≡ sent → ((x : ℕ × P) → IsIn x w' → IsIn x w) → Waits n sent' w'
  waits_still n sent sent' w w' waits same among y h = subst (λ (z : List (ℕ × P)). IsIn y z × (y.0 < n)) (sym same) (waits y (among y h))
