-- What a test of the nodes below n means.
use Rattle.std.proofs.Common.{ℕ, zero, suc, ◌<◌, ◌≡◌, inl, inr, Bool, true, refl, sym, subst, arith}
use Rattle.mx_stamps.proofs.Lists.{dec_eq}
use Rattle.mx_stamps.proofs.Choices.{and_true, both_true}
use Rattle.mx_nodelaws.specs.Tests.{all_below}

pub each_passes : (passes : ℕ → Bool) (n : ℕ) → all_below passes n ≡ true → (j : ℕ) → j < n → passes j ≡ true
each_passes passes zero all j lt = absurd (omega arith)
each_passes passes (suc n) all j lt =
    let p = and_true (all_below passes n) (passes n) all in
    elim (dec_eq j n) [
      | inl e ↦ subst (λ k. passes k ≡ true) (sym e) p.1
      | inr ne ↦ each_passes passes n p.0 j (omega arith)
    ]

pub all_pass : (passes : ℕ → Bool) (n : ℕ) → ((j : ℕ) → j < n → passes j ≡ true) → all_below passes n ≡ true
all_pass passes zero each = refl
all_pass passes (suc n) each = both_true (all_below passes n) (passes n) (all_pass passes n (λ j lt. each j (omega arith))) (each n (omega arith))
