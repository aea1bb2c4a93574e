-- What is found in a list, or not.
use Rattle.std.proofs.Common.{◌≡◌, ◌∙◌, ℕ, zero, suc, List, [], ◌∷◌, Option, None, IfNone, MatchOption, slice_get, Some, ap, refl}
use mathlib.Core.Option.{some}
use lib.ListN.{get_elem?}
use Rattle.std.proofs.lemmas.Option.{same_Some}
use Rattle.mx_stamps.proofs.Lists.{none_is_no_some}
use Rattle.mx_jobs.specs.Posted.{AreReady}

-- what is so where nothing was found
pub when_none : {T P : Type 0} (r : Option T) → ((x : T) → r ≡ Some x → ⊥) → IfNone r P → P
when_none None not so = so
when_none (Some x) not so = absurd (not x refl)

pub match_none : {T P : Type 0} (Q : T → Type 0) (r : Option T) → ((x : T) → r ≡ Some x → ⊥) → MatchOption r P Q → P
match_none Q None not so = so
match_none Q (Some x) not so = absurd (not x refl)

-- the two ways to look up an element
pub as_elem : {X : Type 0} (xs : List X) (k : ℕ) (x : X) → slice_get xs k ≡ Some x → get_elem? xs k ≡ some x
as_elem [] k x at = absurd (none_is_no_some x at)
as_elem (y ∷ xs) zero x at = ap some (same_Some y x at)
as_elem (y ∷ xs) (suc k) x at = as_elem xs k x at

-- the first of these jobs, and the others
pub ready_on : {J : Type 0} (IsReady : J → Type 0) (job : J) (js all : List J) → all ≡ job ∷ js → AreReady IsReady all → IsReady job × AreReady IsReady js
ready_on {J} IsReady job js all is ready = (
  ready 0 job (ap (λ (l : List J). slice_get l 0) is),
  λ k j at. ready (suc k) j (ap (λ (l : List J). slice_get l (suc k)) is ∙ at),
)
