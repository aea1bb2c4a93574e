-- The least request that is found by going through the nodes is the least of all.
use Rattle.std.proofs.Common.{ℕ, zero, suc, ◌<◌, ◌≡◌, inl, inr, Option, Some, None, refl, sym, ◌∙◌, subst, arith}
use Rattle.std.proofs.lemmas.Option.{same_Some}
use Rattle.mx_stamps.specs.declared.stamp.Stamp.{Stamp}
use Rattle.mx_stamps.specs.Stamp.{Before, is_before_of}
use Rattle.mx_stamps.proofs.Lists.{dec_eq, none_is_no_some}
use Rattle.mx_stamps.proofs.Choices.{not_both, cond_case}
use Rattle.mx_stamps.proofs.Stamps.{before_true, before_is, never_before_itself, before_both}
use Rattle.mx_maekawa.specs.ArbiterStep.{lesser, IsLeastOf, least_of}

module _ (f : ℕ → Option Stamp) (n : ℕ) where
  -- what holds of the requests below n, and of the next one, holds below n + 1
  below_more : (P : ℕ → Type 0) → ((j : ℕ) → j < n → P j) → P n → (j : ℕ) → j < suc n → P j
  below_more P below at j lt = elim (dec_eq j n) [
    | inl e ↦ subst P (sym e) at
    | inr ne ↦ below j (omega arith)
  ]

  first_is : (u : Stamp) → ((j : ℕ) → j < n → f j ≡ None) → f n ≡ Some u → IsLeastOf f (suc n) (Some u)
  first_is u none at = (
    (n, omega arith, at),
    λ j v lt. below_more (λ k. f k ≡ Some v → Before v u → ⊥)
        (λ k low has _. none_is_no_some v (sym (none k low) ∙ has))
        (λ has. subst (λ x. Before x u → ⊥) (same_Some u v (sym at ∙ has)) (never_before_itself u)) j lt,
  )

  stays_is : (u : Stamp) → IsLeastOf f n (Some u) → ((v : Stamp) → f n ≡ Some v → Before v u → ⊥) → IsLeastOf f (suc n) (Some u)
  stays_is u was at = (
    (let p = was.0 in let lt : p.0 < n = p.1 in (p.0, omega arith, p.2)),
    λ j v lt. below_more (λ k. f k ≡ Some v → Before v u → ⊥) (λ k low. was.1 k v low) (at v) j lt,
  )

  next_is : (u x : Stamp) → IsLeastOf f n (Some x) → f n ≡ Some u → Before u x → IsLeastOf f (suc n) (Some u)
  next_is u x was at before = (
    (n, omega arith, at),
    λ j v lt. below_more (λ k. f k ≡ Some v → Before v u → ⊥)
        (λ k low has first. was.1 k v low has (before_both v u x first before))
        (λ has. subst (λ y. Before y u → ⊥) (same_Some u v (sym at ∙ has)) (never_before_itself u)) j lt,
  )

  lesser_is : (x y : Option Stamp) → IsLeastOf f n x → f n ≡ y → IsLeastOf f (suc n) (lesser x y)
  lesser_is None None was at = below_more (λ k. f k ≡ None) was at
  lesser_is None (Some u) was at = first_is u was at
  lesser_is (Some x) None was at = stays_is x was (λ v has _. none_is_no_some v (sym at ∙ has))
  lesser_is (Some x) (Some u) was at =
      cond_case (IsLeastOf f (suc n)) (is_before_of u x) (Some u) (Some x)
      (λ e. next_is u x was at (before_true u x e))
      (λ e. stays_is x was (λ v has first. not_both (is_before_of u x) (before_is u x (subst (λ y. Before y x) (same_Some v u (sym has ∙ at)) first)) e))

pub least_of_is : (f : ℕ → Option Stamp) (n : ℕ) → IsLeastOf f n (least_of f n)
least_of_is f zero = λ j lt. absurd (omega arith)
least_of_is f (suc n) = lesser_is f n (least_of f n) (f n) (least_of_is f n) refl
