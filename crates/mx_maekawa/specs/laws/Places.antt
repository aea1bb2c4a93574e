-- A write to a list changes one place and no other.
use Rattle.std.proofs.Common.{ℕ, zero, suc, ◌<◌, ◌≡◌, ◌≢◌, inl, inr, Bool, false, List, [], ◌∷◌, Option, Some, None, slice_set, length, get_or, refl, sym, ◌∙◌, ap, subst, arith}
use Rattle.mx_stamps.proofs.Lists.{dec_eq, none_is_no_some}

-- places of a list that did not change, and the one that did
pub get_or_other : {X : Type 0} (xs : List X) (n j : ℕ) (v d : X) → j ≢ n
    → get_or (slice_set xs n v) j d ≡ get_or xs j d
get_or_other [] n j v d ne = refl
get_or_other (x ∷ xs) zero zero v d ne = absurd (ne refl)
get_or_other (x ∷ xs) zero (suc j) v d ne = refl
get_or_other (x ∷ xs) (suc n) zero v d ne = refl
get_or_other (x ∷ xs) (suc n) (suc j) v d ne = get_or_other xs n j v d (λ e. ne (ap suc e))

pub get_or_same : {X : Type 0} (xs : List X) (n : ℕ) (v d : X) → n < length xs
    → get_or (slice_set xs n v) n d ≡ v
get_or_same [] n v d lt = absurd (omega arith)
get_or_same (x ∷ xs) zero v d lt = refl
get_or_same (x ∷ xs) (suc n) v d lt = get_or_same xs n v d (omega arith)

pub get_or_set_none : {X : Type 0} (xs : List (Option X)) (n : ℕ)
    → get_or (slice_set xs n None) n None ≡ None
get_or_set_none [] n = refl
get_or_set_none (x ∷ xs) zero = refl
get_or_set_none (x ∷ xs) (suc n) = get_or_set_none xs n

-- a value in the list after place n was emptied was there before, at another place
pub emptied : (xs : List (Option ℕ)) (n b y : ℕ) → get_or (slice_set xs n None) b None ≡ Some y
    → (get_or xs b None ≡ Some y) × (b ≢ n)
emptied xs n b y h = elim (dec_eq b n) [
  | inl e ↦ absurd (none_is_no_some y (sym (get_or_set_none xs n)
      ∙ subst (λ k. get_or (slice_set xs n None) k None ≡ Some y) e h))
  | inr ne ↦ (sym (get_or_other xs n b None None ne) ∙ h, ne)
]

pub set_false : (xs : List Bool) (n j : ℕ) → get_or xs j false ≡ false
    → get_or (slice_set xs n false) j false ≡ false
set_false [] n j h = h
set_false (x ∷ xs) zero zero h = refl
set_false (x ∷ xs) zero (suc j) h = h
set_false (x ∷ xs) (suc n) zero h = h
set_false (x ∷ xs) (suc n) (suc j) h = set_false xs n j h

-- phases
