-- The stamp order is a total order, and its tests decide it.
use Rattle.std.proofs.Common.{◌≡◌, ◌≢◌, inl, inr, true, false, ◌&&◌, nat_eq, nat_lt, refl, ◌∙◌, subst, arith}
use Rattle.std.proofs.lemmas.Bool.Decides.{nat_tests}
use Rattle.mx_stamps.specs.declared.stamp.Stamp.{Stamp}
use Rattle.mx_stamps.specs.Stamp.{Before, is_before_of, is_same_as}
use Rattle.mx_stamps.proofs.Choices.{and_true, both_true, eq_is, eq_true, lt_is, lt_true, or_cases, or_left, or_right}

-- stamps with equal numbers and nodes are one
pub same_parts : (a b : Stamp) → a.number ≡ b.number → a.node ≡ b.node → a ≡ b
same_parts a b e f = subst (λ x. a ≡ record { number = x; node = b.node }) e (subst (λ x. a ≡ record { number = a.number; node = x }) f refl)

pub same_stamp : (a b : Stamp) → is_same_as a b ≡ true → a ≡ b
same_stamp a b e =
    let p = and_true (nat_eq a.number b.number) (nat_eq a.node b.node) e in
    same_parts a b (eq_true a.number b.number p.0) (eq_true a.node b.node p.1)

-- the test of the order is the order

pub before_true : (a b : Stamp) → is_before_of a b ≡ true → Before a b
before_true a b h = elim (or_cases (nat_lt a.number b.number) (nat_eq a.number b.number && nat_lt a.node b.node) h) [
  | inl lt ↦ inl (lt_true a.number b.number lt)
  | inr p ↦ let q = and_true (nat_eq a.number b.number) (nat_lt a.node b.node) p in inr (eq_true a.number b.number q.0, lt_true a.node b.node q.1)
]

pub before_is : (a b : Stamp) → Before a b → is_before_of a b ≡ true
before_is a b (inl lt) = or_left (nat_lt a.number b.number) (nat_eq a.number b.number && nat_lt a.node b.node) (lt_is a.number b.number lt)
before_is a b (inr p) =
    or_right (nat_lt a.number b.number) (nat_eq a.number b.number && nat_lt a.node b.node)
    (both_true (nat_eq a.number b.number) (nat_lt a.node b.node) (eq_is a.number b.number p.0) (lt_is a.node b.node p.1))

-- where one stamp is not before another of a different node, it is after it
pub not_before : (a b : Stamp) → is_before_of a b ≡ false → a.node ≢ b.node → Before b a
not_before a b h ne = grind (arith, nat_tests)

-- no stamp is before itself, and of two one alone is before the other

pub never_before_itself : (a : Stamp) → Before a a → ⊥
never_before_itself a (inl lt) = omega arith
never_before_itself a (inr p) = omega (arith, p.1)

pub before_apart : (a b : Stamp) → Before a b → Before b a → ⊥
before_apart a b (inl h) (inl k) = omega arith
before_apart a b (inl h) (inr k) = omega (arith, k.0)
before_apart a b (inr h) (inl k) = omega (arith, h.0)
before_apart a b (inr h) (inr k) = omega (arith, h.1, k.1)

pub before_both : (a b c : Stamp) → Before a b → Before b c → Before a c
before_both a b c (inl p) (inl q) = inl (omega arith)
before_both a b c (inl p) (inr q) = inl (omega (arith, q.0))
before_both a b c (inr p) (inl q) = inl (omega (arith, p.0))
before_both a b c (inr p) (inr q) = inr (p.0 ∙ q.0, omega (arith, p.1, q.1))
