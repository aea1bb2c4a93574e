-- The parcels that are left, each with its number.
use Rattle.std.proofs.Common.{ℕ, zero, suc, ◌+◌, ◌≡◌, ◌∙◌, List, [], ◌∷◌, Some, None, ap, add-one, drop, drop-cons, refl, slice_get, sym}
use Rattle.std.specs.List.{enumerate_from}
use Rattle.std.proofs.lemmas.Option.{get_or_from_slice_get, slice_get_within}
use Rattle.mx_stamps.proofs.Lists.{none_is_no_some}

pub one_left : {X : Type 0} (xs : List X) (k : ℕ) (x : X) → slice_get xs k ≡ Some x → enumerate_from k (drop k xs) ≡ (k, x) ∷ enumerate_from (k + 1) (drop (k + 1) xs)
one_left {X} xs k x there =
    ap (enumerate_from k) (drop-cons xs k x (slice_get_within xs k x there))
    ∙ ap (λ (y : X). (k, y) ∷ enumerate_from (k + 1) (drop (suc k) xs)) (get_or_from_slice_get xs k x x there)
    ∙ ap (λ (n : ℕ). (k, x) ∷ enumerate_from (k + 1) (drop n xs)) (sym (add-one k))

pub none_left : {X : Type 0} (xs : List X) (k : ℕ) → slice_get xs k ≡ None → drop k xs ≡ []
none_left [] zero none = refl
none_left [] (suc k) none = refl
none_left (x ∷ xs) zero none = absurd (none_is_no_some x (sym none))
none_left (x ∷ xs) (suc k) none = none_left xs k none
