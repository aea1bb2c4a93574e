-- Lemmas on lists of names and of values.
use Rattle.std.proofs.Common.{◌≡◌, ◌∙◌, ℕ, ◌+◌, ◌<◌, ◌≤◌, List, [], ◌∷◌, ◌++◌, ◌||◌, Bool, true, false, not, length, map, ap, sym, refl, arith, ◌⊎◌, inl, inr, take, drop, get_or}
use Rattle.std.specs.List.{list_all, list_any, position, prefix_len}
use Rattle.std.specs.Str.{bytes_eq}
use Rattle.std.proofs.lemmas.List.Folds.{list_all-map, list_all_at, list_any-append}
use Rattle.std.proofs.lemmas.List.{map-append, take-append-drop, take_all, take_more}
use Rattle.serde_json.specs.Data.{Data}
use Rattle.serde_json.specs.View.{items_of}
use Rattle.mx_plan.specs.Text.{Text, has_double}
use Rattle.mx_plan.specs.Values.{list_of, text_of}

pub list_of-items_of : (ds : List Data) → list_of (items_of ds) ≡ ds
list_of-items_of [] = refl
list_of-items_of (d ∷ ds) = ap (λ es. d ∷ es) (list_of-items_of ds)

pub prefix_len-map : {X Y : Type 0} (p : Y → Bool) (f : X → Y) (xs : List X) → prefix_len p (map f xs) ≡ prefix_len (λ x. p (f x)) xs
prefix_len-map p f [] = refl
prefix_len-map p f (x ∷ xs) = rw (prefix_len-map p f xs) refl

pub length-map' : {X Y : Type 0} (f : X → Y) (xs : List X) → length (map f xs) ≡ length xs
length-map' f [] = refl
length-map' f (x ∷ xs) = grind (arith, length-map' f xs)

pub position-map : {X Y : Type 0} (p : Y → Bool) (f : X → Y) (xs : List X) → position p (map f xs) ≡ position (λ x. p (f x)) xs
position-map p f xs = rw (prefix_len-map (λ y. not (p y)) f xs, length-map' f xs) refl

pub list_any-map : {X Y : Type 0} (p : Y → Bool) (f : X → Y) (xs : List X) → list_any p (map f xs) ≡ list_any (λ x. p (f x)) xs
list_any-map p f [] = refl
list_any-map p f (x ∷ xs) = rw (list_any-map p f xs) refl

-- ---- a loop that tests each element

module _ {X A : Type 0} (p : A → Bool) (f : X → A) (xs : List X) where
  -- one that fails, and none
  pub all_stops : (i : ℕ) (d : X) → i < length xs → p (f (get_or xs i d)) ≡ false → list_all p (map f xs) ≡ false
  all_stops i d h fails = list_all-map p f xs ∙ list_all_at (λ x. p (f x)) xs i d h fails

  pub all_ends : (i : ℕ) → length xs ≤ i → list_all (λ x. p (f x)) (take i xs) ≡ true → list_all p (map f xs) ≡ true
  all_ends i h so_far = list_all-map p f xs ∙ sym (ap (list_all (λ x. p (f x))) (take_all i xs h)) ∙ so_far

-- one name more
pub has_double-push : (xs : List Text) (y : Text) → has_double (xs ++ y ∷ []) ≡ (has_double xs || list_any (bytes_eq y) xs)
has_double-push [] y = refl
has_double-push (x ∷ xs) y =
    rw (list_any-append (λ z. bytes_eq z x) xs (y ∷ []), has_double-push xs y) (swapped (list_any (λ z. bytes_eq z x) xs) (bytes_eq y x) (has_double xs) (list_any (bytes_eq y) xs))
  where
    swapped : (a b c d : Bool) → ((a || (b || false)) || (c || d)) ≡ ((a || c) || (b || d))
    swapped true b c d = refl
    swapped false true true d = refl
    swapped false true false d = refl
    swapped false false c d = refl

-- ---- a loop that collects texts

or_true : (b : Bool) → (b || true) ≡ true
or_true true = refl
or_true false = refl

either : (a b : Bool) → (a || b) ≡ true → (a ≡ true) ⊎ (b ≡ true)
either true b h = inl refl
either false b h = inr h

pub has_double-kept : (xs ys : List Text) → has_double xs ≡ true → has_double (xs ++ ys) ≡ true
has_double-kept [] ys h = cc
has_double-kept (x ∷ xs) ys h = rw (list_any-append (λ z. bytes_eq z x) xs ys) (elim (either (list_any (λ z. bytes_eq z x) xs) (has_double xs) h) [
  | inl a ↦ rw a refl
  | inr b ↦ rw (has_double-kept xs ys b) (or_true (list_any (λ z. bytes_eq z x) xs || list_any (λ z. bytes_eq z x) ys))
])

module _ {X : Type 0} (f : X → Data) where
  abbrev pub texts : List X → List Text
  texts xs = map text_of (map f xs)

  pub texts_more : (xs : List X) (i : ℕ) (d : X) → i < length xs → texts (take (i + 1) xs) ≡ texts (take i xs) ++ text_of (f (get_or xs i d)) ∷ []
  texts_more xs i d h =
      ap texts (take_more xs i d h)
      ∙ ap (map text_of) (map-append f (take i xs) (get_or xs i d ∷ []))
      ∙ map-append text_of (map f (take i xs)) (f (get_or xs i d) ∷ [])

  -- the text at i is before it too
  pub double_at : (xs : List X) (i : ℕ) (d : X) → i < length xs
      → list_any (bytes_eq (text_of (f (get_or xs i d)))) (texts (take i xs)) ≡ true → has_double (texts xs) ≡ true
  double_at xs i d h any =
      let here : has_double (texts (take (i + 1) xs)) ≡ true =
      rw (texts_more xs i d h, has_double-push (texts (take i xs)) (text_of (f (get_or xs i d))), any) (or_true (has_double (texts (take i xs)))) in
      let whole : texts (take (i + 1) xs) ++ texts (drop (i + 1) xs) ≡ texts xs =
      sym (map-append text_of (map f (take (i + 1) xs)) (map f (drop (i + 1) xs)))
      ∙ ap (map text_of) (sym (map-append f (take (i + 1) xs) (drop (i + 1) xs)))
      ∙ ap texts (take-append-drop (i + 1) xs) in
      rw (← whole) (has_double-kept (texts (take (i + 1) xs)) (texts (drop (i + 1) xs)) here)
