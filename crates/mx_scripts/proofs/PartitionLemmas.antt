-- Which links lead across a partition, and are not cut.
use Rattle.std.proofs.Common.{◌≡◌, ◌≤◌, ◌<◌, ◌+◌, ◌/◌, ◌%◌, ℕ, false, not, sym, subst, arith, inl, inr}
use Rattle.std.specs.Prelude.{◌&&◌, nat_lt}
use Rattle.std.proofs.lemmas.Bool.{cases_eq, cases_lt}
use Rattle.std.proofs.lemmas.Bool.Decides.{nat_tests}
use Rattle.mx_lines.specs.Sides.{crosses}
use Rattle.mx_lines.specs.declared.sides.Sides.{Sides}
use Rattle.mx_scripts.specs.Links.{LinkState, is_across, is_cut}
use Rattle.mx_scripts.proofs.FateLemmas.{and_left}

module _ (sides : Sides) (l : LinkState) where
  -- no link below this index is across
  abbrev pub NoneBelow : ℕ → Type 0
  NoneBelow n = (k : ℕ) → k < n → is_across sides l k ≡ false

  pub none_below_next : (n : ℕ) → NoneBelow n → is_across sides l n ≡ false → NoneBelow (n + 1)
  none_below_next n before here k lt = elim (cases_eq k n) [
    | inl is ↦ subst (λ (j : ℕ). is_across sides l j ≡ false) (sym is) here
    | inr other ↦ before k (omega (arith, lt, other))
  ]

  -- there is no link of such an index
  across_past : (k : ℕ) → 441 ≤ k → is_across sides l k ≡ false
  across_past k le =
      and_left (nat_lt k 441) (crosses sides (k / 21) (k % 21) && not (is_cut l (k / 21) (k % 21))) (grind (arith, nat_tests))

  pub none_across : (n : ℕ) → NoneBelow n → 441 ≤ n → (k : ℕ) → is_across sides l k ≡ false
  none_across n before past k = elim (cases_lt k n) [
    | inl less ↦ before k less
    | inr more ↦ across_past k (omega (arith, past, more))
  ]
