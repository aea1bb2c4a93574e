-- The nodes of a cluster, one by one.
use Rattle.std.proofs.Common.{ℕ, suc, ◌≡◌, ◌<◌, ◌+◌, ◌-◌, ◌∷◌, arith, refl, subst}
use Rattle.std.specs.List.{range_with_len}

pub first_left : (a b : ℕ) → a < b → range_with_len a (b - a) ≡ a ∷ range_with_len (a + 1) (b - (a + 1))
first_left a b lt =
    let more : suc (b - (a + 1)) ≡ b - a = omega (arith, lt) in
    subst (λ (n : ℕ). range_with_len a n ≡ a ∷ range_with_len (a + 1) (b - (a + 1))) more refl
