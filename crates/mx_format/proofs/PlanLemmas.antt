-- The least node in the sets of two.
use Rattle.std.proofs.Common.{◌≡◌, ◌<◌, ℕ, Bool, List, [], ◌∷◌, ◌&&◌, zero, suc, length, get_or, slice_get, Some, sym, ap, arith, ◌++◌, subst, OnOk, Result, ◌∙◌}
use Rattle.std.specs.Bool.{⊤}
use Rattle.std.specs.declared.alloc.AllocError.{AllocError}
use Rattle.std.proofs.lemmas.List.Sums.{position_or_len_is}
use Rattle.std.proofs.lemmas.Option.{same_Some}
use Rattle.mx_stamps.specs.Lists.{each_below}
use Rattle.mx_stamps.proofs.Lists.{has_each_below, length_each_below, none_is_no_some}
use Rattle.mx_stamps.proofs.Choices.{and_true, both_true, is_false}
use Rattle.mx_quorums.specs.Family.{Family, IsCommon, has_of}
use Rattle.mx_quorums.specs.Rules.{IsLeast}
use Rattle.mx_plan.specs.Text.{Text}
use Rattle.mx_format.specs.PlanTexts.{meeting_of}

-- what is at a place of the numbers below n
at_place : (xs : List ℕ) (i x d : ℕ) → slice_get xs i ≡ Some x → get_or xs i d ≡ x
at_place [] i x d h = absurd (none_is_no_some x h)
at_place (y ∷ ys) zero x d h = same_Some y x h
at_place (y ∷ ys) (suc i) x d h = at_place ys i x d h

number_at : (n k : ℕ) → k < n → get_or (each_below (λ a. a) n) k 0 ≡ k
number_at n k lt = at_place (each_below (λ a. a) n) k k 0 (has_each_below (λ a. a) n k lt)

module _ (f : Family) (i j : ℕ) where
  abbrev is_common : ℕ → Bool
  is_common a = has_of f i a && has_of f j a

  -- the least node that is in both is the first in order
  pub least_is : (r : ℕ) → IsLeast (IsCommon f i j) f.count r → r ≡ meeting_of f i j
  least_is r least =
      let count : length (each_below (λ a. a) f.count) ≡ f.count = length_each_below (λ a. a) f.count in
      let lt = least.0 in
      sym (position_or_len_is is_common (each_below (λ a. a) f.count) r 0 (omega (arith, count, lt))
      (λ k less. ap is_common (number_at f.count k (omega (arith, less, lt)))
      ∙ is_false (is_common k) (λ yes. least.2 k less (and_true (has_of f i k) (has_of f j k) yes)))
      (λ _. ap is_common (number_at f.count r lt) ∙ both_true (has_of f i r) (has_of f j r) least.1.0 least.1.1))

-- a text that was appended, by another that is equal
pub appended : (r : Result ⊤ AllocError) (t t' a b : Text) → OnOk r (t' ≡ t ++ a) → a ≡ b → OnOk r (t' ≡ t ++ b)
appended r t t' a b h e = subst (λ (x : Text). OnOk r (t' ≡ t ++ x)) e h
