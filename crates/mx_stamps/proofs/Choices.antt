-- What a test of numbers says of them, and what follows where a value is chosen by a test.
use Rattle.std.proofs.Common.{ℕ, zero, suc, ◌<◌, ◌≤◌, ◌≡◌, ◌≢◌, ◌⊎◌, inl, inr, Bool, true, false, cond, not, ◌&&◌, ◌||◌, nat_lt, nat_le, nat_eq, refl, sym, ◌∙◌, arith}
use Rattle.std.proofs.lemmas.Bool.Decides.{nat_tests}

-- tests of two numbers

pub lt_true : (a b : ℕ) → nat_lt a b ≡ true → a < b
lt_true a b h = grind (arith, nat_tests)

pub lt_false : (a b : ℕ) → nat_lt a b ≡ false → b ≤ a
lt_false a b h = grind (arith, nat_tests)

pub lt_is : (a b : ℕ) → a < b → nat_lt a b ≡ true
lt_is a b h = grind (arith, nat_tests)

pub lt_not : (a b : ℕ) → b ≤ a → nat_lt a b ≡ false
lt_not a b h = grind (arith, nat_tests)

pub le_true : (a b : ℕ) → nat_le a b ≡ true → a ≤ b
le_true a b h = grind (arith, nat_tests)

pub le_false : (a b : ℕ) → nat_le a b ≡ false → b < a
le_false a b h = grind (arith, nat_tests)

pub eq_true : (a b : ℕ) → nat_eq a b ≡ true → a ≡ b
eq_true a b h = grind (arith, nat_tests)

pub eq_false : (a b : ℕ) → nat_eq a b ≡ false → a ≢ b
eq_false a b h = grind (arith, nat_tests)

pub eq_is : (a b : ℕ) → a ≡ b → nat_eq a b ≡ true
eq_is a b h = grind (arith, nat_tests)

pub eq_not : (a b : ℕ) → a ≢ b → nat_eq a b ≡ false
eq_not a b h = grind (arith, nat_tests)

-- one of two, or of three, holds of any two numbers

pub dec_le : (a b : ℕ) → (a ≤ b) ⊎ (b < a)
dec_le zero b = inl (omega arith)
dec_le (suc a) zero = inr (omega arith)
dec_le (suc a) (suc b) = elim (dec_le a b) [ inl l ↦ inl (omega arith) | inr r ↦ inr (omega arith) ]

pub compared : (a b : ℕ) → (a < b) ⊎ ((a ≡ b) ⊎ (b < a))
compared a b = grind arith

-- a test passes or fails, and not both

pub bool_cases : (b : Bool) → (b ≡ true) ⊎ (b ≡ false)
bool_cases true = inl refl
bool_cases false = inr refl

pub not_both : (b : Bool) → b ≡ true → b ≡ false → ⊥
not_both b t f = let e : true ≡ false = sym t ∙ f in cc

pub is_false : (b : Bool) → (b ≡ true → ⊥) → b ≡ false
is_false true h = absurd (h refl)
is_false false h = refl

pub not_true : (a : Bool) → not a ≡ true → a ≡ false
not_true true h = let bad : ⊥ = cc in absurd bad
not_true false h = refl

-- a test that two tests pass

pub both_true : (a b : Bool) → a ≡ true → b ≡ true → (a && b) ≡ true
both_true true b h k = k
both_true false b h k = h

pub and_true : (a b : Bool) → (a && b) ≡ true → (a ≡ true) × (b ≡ true)
and_true true b h = (refl, h)
and_true false b h = let bad : ⊥ = cc in absurd bad

pub and_false : (a b : Bool) → (a && b) ≡ false → a ≡ true → b ≡ false
and_false true b h t = h
and_false false b h t = let bad : ⊥ = cc in absurd bad

pub left_false : (a b : Bool) → a ≡ false → (a && b) ≡ false
left_false true b h = let bad : ⊥ = cc in absurd bad
left_false false b h = refl

pub right_false : (a b : Bool) → b ≡ false → (a && b) ≡ false
right_false true b h = h
right_false false b h = refl

-- a test that one of two tests passes

pub or_left : (a b : Bool) → a ≡ true → (a || b) ≡ true
or_left true b h = refl
or_left false b h = let bad : ⊥ = cc in absurd bad

pub or_right : (a b : Bool) → b ≡ true → (a || b) ≡ true
or_right true b h = refl
or_right false b h = h

pub or_cases : (a b : Bool) → (a || b) ≡ true → (a ≡ true) ⊎ (b ≡ true)
or_cases true b h = inl refl
or_cases false b h = inr h

pub or_false : (a b : Bool) → (a || b) ≡ true → a ≡ false → b ≡ true
or_false true b h f = let bad : ⊥ = cc in absurd bad
or_false false b h f = h

pub neither : (a b : Bool) → (a || b) ≡ false → (a ≡ false) × (b ≡ false)
neither true b h = let bad : ⊥ = cc in absurd bad
neither false b h = (refl, h)

pub neither_true : (a b : Bool) → a ≡ false → b ≡ false → (a || b) ≡ false
neither_true true b h k = let bad : ⊥ = cc in absurd bad
neither_true false b h k = k

-- a value that is chosen by a test

pub cond_case : {X : Type 0} (P : X → Type 0) (b : Bool) (x y : X) → (b ≡ true → P x) → (b ≡ false → P y) → P (cond b x y)
cond_case P true x y f g = f refl
cond_case P false x y f g = g refl

pub cond_true : {X : Type 0} (b : Bool) (x y : X) → b ≡ true → cond b x y ≡ x
cond_true true x y h = refl
cond_true false x y h = let bad : ⊥ = cc in absurd bad

pub cond_false : {X : Type 0} (b : Bool) (x y : X) → b ≡ false → cond b x y ≡ y
cond_false true x y h = let bad : ⊥ = cc in absurd bad
cond_false false x y h = refl
