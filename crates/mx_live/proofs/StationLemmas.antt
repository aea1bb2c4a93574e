-- Lists by place.
use Rattle.std.proofs.Common.{◌≡◌, ◌∙◌, ◌<◌, ◌++◌, ℕ, zero, suc, List, [], ◌∷◌, length, get_or, map, ap, refl, subst, sym, append_assoc, arith}
use Rattle.std.specs.List.{AllZip}
use Rattle.std.proofs.lemmas.List.{append-nil}
use mathlib.Core.Option.{some, some-injective, some-ne-none}
use lib.ListN.{get_elem?}

module _ {X : Type 0} where
  -- what is at a place
  pub there : (l : List X) (k : ℕ) (x : X) → get_elem? l k ≡ some x → (k < length l) × (get_or l k x ≡ x)
  there [] k x is = absurd (some-ne-none x (sym is))
  there (y ∷ l) zero x is = (omega arith, some-injective y x is)
  there (y ∷ l) (suc k) x is = let t = there l k x is in (omega (arith, t.0), t.1)

  -- and what it was made of
  pub unmapped : {Y : Type 0} (f : X → Y) (l : List X) (k : ℕ) (y : Y) → get_elem? (map f l) k ≡ some y → (x : X) × (get_elem? l k ≡ some x) × (y ≡ f x)
  unmapped f [] k y is = absurd (some-ne-none y (sym is))
  unmapped f (x ∷ l) zero y is = (x, refl, sym (some-injective (f x) y is))
  unmapped f (x ∷ l) (suc k) y is = unmapped f l k y is

  pub first_and_more : {x y : X} {xs ys : List X} → x ∷ xs ≡ y ∷ ys → (x ≡ y) × (xs ≡ ys)
  first_and_more e = (cc, cc)

  pub nil_is_no_more : {x : X} {xs : List X} → [] ≡ x ∷ xs → ⊥
  nil_is_no_more e = cc

module _ {A B : Type 0} (R : A → B → Type 0) where
  -- as many
  pub zip_many : (xs : List A) (ys : List B) → AllZip R xs ys → length ys ≡ length xs
  zip_many [] [] all = refl
  zip_many [] (y ∷ ys) all = absurd all
  zip_many (x ∷ xs) [] all = absurd all
  zip_many (x ∷ xs) (y ∷ ys) all = ap suc (zip_many xs ys all.1)

  -- and of each the other at its place
  pub zip_at : (xs : List A) (ys : List B) → AllZip R xs ys → (k : ℕ) (y : B) → get_elem? ys k ≡ some y → (x : A) × (get_elem? xs k ≡ some x) × R x y
  zip_at [] [] all k y is = absurd (some-ne-none y (sym is))
  zip_at [] (z ∷ ys) all k y is = absurd all
  zip_at (x ∷ xs) [] all k y is = absurd all
  zip_at (x ∷ xs) (z ∷ ys) all zero y is = (x, refl, subst (R x) (some-injective z y is) all.0)
  zip_at (x ∷ xs) (z ∷ ys) all (suc k) y is = zip_at xs ys all.1 k y is

module _ {Y X : Type 0} (g : Y → X) where
  -- what is done and what is left is all: before the first, from one to the next, and after the last
  pub begun : (old : List X) (rest ys : List Y) → rest ≡ ys → old ++ map g rest ≡ old ++ map g ys
  begun old rest ys same = ap (λ (l : List Y). old ++ map g l) same

  pub first : (none : List X) (rest ys : List Y) → none ≡ [] → rest ≡ ys → none ++ map g rest ≡ map g ys
  first none rest ys empty same = ap (λ (l : List X). l ++ map g rest) empty ∙ ap (λ (l : List Y). map g l) same

  pub moved : (old new : List X) (rest more : List Y) (y : Y) (all : List X) → new ≡ old ++ g y ∷ [] → rest ≡ y ∷ more → old ++ map g rest ≡ all → new ++ map g more ≡ all
  moved old new rest more y all grown step is =
      ap (λ (l : List X). l ++ map g more) grown ∙ append_assoc old (g y ∷ []) (map g more) ∙ ap (λ (l : List Y). old ++ map g l) (sym step) ∙ is

  pub ended : (old : List X) (rest : List Y) (all : List X) → rest ≡ [] → old ++ map g rest ≡ all → old ≡ all
  ended old rest all none is = sym (append-nil old) ∙ ap (λ (l : List Y). old ++ map g l) (sym none) ∙ is
