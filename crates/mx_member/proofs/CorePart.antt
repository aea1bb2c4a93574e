-- The core part of a world of members: which letters are in it, and what a step of a member is there.
use Rattle.std.proofs.Common.{ℕ, zero, suc, ◌≡◌, inl, inr, List, [], ◌∷◌, ◌++◌, Some, map, slice_get, slice_set, refl, sym, ◌∙◌, ap, subst}
use Rattle.std.proofs.lemmas.Option.{same_Some}
use Rattle.mx_stamps.specs.Lists.{IsIn, each_below}
use Rattle.mx_stamps.proofs.Lists.{append_append, in_append, in_left, in_right, none_is_no_some}
use Rattle.mx_nodelaws.specs.World.{sent_by}
use Rattle.mx_member.specs.declared.parcel.Parcel.{Parcel}
use Rattle.mx_member.specs.declared.parcel.Parcel.TheVariants.{Guard, Want, Base, Records}
use Rattle.mx_member.specs.Member.{guarded, letter_in}
use Rattle.mx_member.specs.World.{letters_in}

-- one element of a list that is mapped
pub map_set : {X Y : Type 0} (f : X → Y) (xs : List X) (i : ℕ) (v : X) → map f (slice_set xs i v) ≡ slice_set (map f xs) i (f v)
map_set f [] i v = refl
map_set f (x ∷ xs) zero v = refl
map_set f (x ∷ xs) (suc i) v = ap (λ ys. f x ∷ ys) (map_set f xs i v)

pub get_map : {X Y : Type 0} (f : X → Y) (xs : List X) (i : ℕ) (x : X) → slice_get xs i ≡ Some x → slice_get (map f xs) i ≡ Some (f x)
get_map f [] i x h = absurd (none_is_no_some x h)
get_map f (y ∷ ys) zero x h = ap (λ z. Some (f z)) (same_Some y x h)
get_map f (y ∷ ys) (suc i) x h = get_map f ys i x h

map-append : {X Y : Type 0} (f : X → Y) (xs ys : List X) → map f (xs ++ ys) ≡ map f xs ++ map f ys
map-append f [] ys = refl
map-append f (x ∷ xs) ys = ap (λ l. f x ∷ l) (map-append f xs ys)

pub map_each_below : {X Y : Type 0} (f : X → Y) (g : ℕ → X) (n : ℕ) → map f (each_below g n) ≡ each_below (λ i. f (g i)) n
map_each_below f g zero = refl
map_each_below f g (suc n) = map-append f (each_below g n) (g n ∷ []) ∙ ap (λ l. l ++ f (g n) ∷ []) (map_each_below f g n)

pub letters_in-append : {M : Type 0} (ps qs : List (ℕ × ℕ × Parcel M)) → letters_in (ps ++ qs) ≡ letters_in ps ++ letters_in qs
letters_in-append [] qs = refl
letters_in-append (p ∷ ps) qs =
    ap (λ l. letter_in p.0 p.1 p.2 ++ l) (letters_in-append ps qs) ∙ sym (append_append (letter_in p.0 p.1 p.2) (letters_in ps) (letters_in qs))

-- the letters of a step are those of its core
pub letters_guarded : {M : Type 0} (i : ℕ) (ps : List (ℕ × M)) → letters_in (sent_by i (guarded ps)) ≡ sent_by i ps
letters_guarded i [] = refl
letters_guarded i (p ∷ ps) = ap (λ l. (i, p.0, p.1) ∷ l) (letters_guarded i ps)

-- each parcel of such a step is a letter of its core
pub in_guarded : {M : Type 0} (ps : List (ℕ × M)) (b : ℕ) (p : Parcel M) → IsIn (b, p) (guarded ps) → (letter : M) × (p ≡ Guard letter) × IsIn (b, letter) ps
in_guarded [] b p h = absurd h
in_guarded (q ∷ ps) b p (inl e) = (q.1, ap (λ t. t.1) e, inl (ap (λ t. (t.0, q.1)) e))
in_guarded (q ∷ ps) b p (inr h) = let r = in_guarded ps b p h in (r.0, r.1, inr r.2)

pub in_sent : {M : Type 0} (i : ℕ) (ps : List (ℕ × M)) (b : ℕ) (letter : M) → IsIn (b, letter) ps → IsIn (i, b, letter) (sent_by i ps)
in_sent i [] b letter h = absurd h
in_sent i (p ∷ ps) b letter (inl e) = inl (ap (λ t. (i, t.0, t.1)) e)
in_sent i (p ∷ ps) b letter (inr h) = inr (in_sent i ps b letter h)

same_guard : {M : Type 0} (a b c d : ℕ) (letter : M) (p : Parcel M) → IsIn (a, b, letter) (letter_in c d p) → ◌≡◌ {A = ℕ × ℕ × Parcel M} (a, b, Guard letter) (c, d, p)
same_guard a b c d letter (Guard other) (inl e) = ap (λ t. (t.0, t.1, Guard t.2)) e
same_guard a b c d letter (Guard other) (inr h) = absurd h
same_guard a b c d letter (Want ranges) h = absurd h
same_guard a b c d letter (Base base) h = absurd h
same_guard a b c d letter (Records records) h = absurd h

-- a letter in the core part was sent as a parcel, and the other way round
pub guard_in : {M : Type 0} (a b : ℕ) (letter : M) (ps : List (ℕ × ℕ × Parcel M)) → IsIn (a, b, letter) (letters_in ps) → IsIn (a, b, Guard letter) ps
guard_in a b letter [] h = absurd h
guard_in a b letter (p ∷ ps) h = elim (in_append (a, b, letter) (letter_in p.0 p.1 p.2) (letters_in ps) h) [
  | inl k ↦ inl (same_guard a b p.0 p.1 letter p.2 k)
  | inr k ↦ inr (guard_in a b letter ps k)
]

pub letter_of : {M : Type 0} (a b : ℕ) (letter : M) (ps : List (ℕ × ℕ × Parcel M)) → IsIn (a, b, Guard letter) ps → IsIn (a, b, letter) (letters_in ps)
letter_of a b letter [] h = absurd h
letter_of a b letter (p ∷ ps) (inl e) =
    in_left (a, b, letter) (letter_in p.0 p.1 p.2) (letters_in ps) (subst (λ t. IsIn (a, b, letter) (letter_in t.0 t.1 t.2)) e (inl refl))
letter_of a b letter (p ∷ ps) (inr k) = in_right (a, b, letter) (letter_in p.0 p.1 p.2) (letters_in ps) (letter_of a b letter ps k)
