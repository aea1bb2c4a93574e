-- Values that have two numbers in them, and nothing else: they are equal where both numbers are.
use Rattle.std.proofs.Common.{ℕ, ◌≡◌, ◌&&◌, nat_eq, ap, Decides}
use Rattle.std.proofs.lemmas.Bool.Decides.{Decides-eqb, Decides-and, Decides-like}

pub both_decide : {C : Type 0} (p q : C → ℕ) → ((a b : C) → p a ≡ p b → q a ≡ q b → a ≡ b) → (a b : C) → Decides (nat_eq (p a) (p b) && nat_eq (q a) (q b)) (a ≡ b)
both_decide p q one a b =
    Decides-like (nat_eq (p a) (p b) && nat_eq (q a) (q b)) (λ e. one a b e.0 e.1) (λ e. (ap p e, ap q e))
    (Decides-and (nat_eq (p a) (p b)) (nat_eq (q a) (q b)) (Decides-eqb (p a) (p b)) (Decides-eqb (q a) (q b)))
