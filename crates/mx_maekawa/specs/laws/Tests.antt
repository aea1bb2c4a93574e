-- What the tests of the step table mean: the permission, and failed arbiters.
use Rattle.std.proofs.Common.{ℕ, Option, Some, None, zero, suc, ◌<◌, ◌≡◌, ◌↔◌, inl, inr, Bool, true, false, not, ◌||◌, refl, sym, ap, subst, arith}
use Rattle.mx_stamps.proofs.Lists.{dec_eq}
use Rattle.mx_stamps.proofs.Choices.{not_both, or_cases, or_false, neither}
use Rattle.mx_nodelaws.proofs.Tests.{each_passes, all_pass}
use Rattle.mx_maekawa.specs.Node.{RequesterState}
use Rattle.mx_maekawa.specs.RequesterStep.{is_some, has_failed, is_own, holds, is_held, holds_all, has_failed_below, HoldsAll, HasFailed}

-- a number that is held, if there is one

pub some_of : (o : Option ℕ) → is_some o ≡ true → (g : ℕ) × (o ≡ Some g)
some_of None h = let bad : ⊥ = cc in absurd bad
some_of (Some g) h = (g, refl)

pub none_of : (o : Option ℕ) → is_some o ≡ false → o ≡ None
none_of None h = refl
none_of (Some g) h = let bad : ⊥ = cc in absurd bad

-- the permission

own_or_not : (own held : Bool) → (own ≡ true → held ≡ true) → (not own || held) ≡ true
own_or_not true held h = h refl
own_or_not false held h = refl

pub holds_each : (r : RequesterState) → holds_all r ≡ true → HoldsAll r
holds_each r all a lt own =
    or_false (not (is_own r a)) (holds r a) (each_passes (is_held r) r.count all a lt) (ap not own)

pub holds_all_is : (r : RequesterState) → (holds_all r ≡ true) ↔ HoldsAll r
holds_all_is r = (
  holds_each r,
  λ h. all_pass (is_held r) r.count
      (λ a lt. own_or_not (is_own r a) (holds r a) (h a lt)),
)

pub some_failed : (r : RequesterState) (n : ℕ) → has_failed_below r n ≡ true → (b : ℕ) × (b < n)
    × (has_failed r b ≡ true)
some_failed r zero h = let bad : ⊥ = cc in absurd bad
some_failed r (suc n) h = elim (or_cases (has_failed_below r n) (has_failed r n) h) [
  | inl a ↦ let p = some_failed r n a in (p.0, (let lt : p.0 < n = p.1 in omega arith), p.2)
  | inr b ↦ (n, omega arith, b)
]

pub none_failed : (r : RequesterState) (n : ℕ) → has_failed_below r n ≡ false → (b : ℕ) → b < n
    → has_failed r b ≡ false
none_failed r zero h b lt = absurd (omega arith)
none_failed r (suc n) h b lt =
    let p = neither (has_failed_below r n) (has_failed r n) h in
    elim (dec_eq b n) [
      | inl e ↦ subst (λ k. has_failed r k ≡ false) (sym e) p.1
      | inr ne ↦ none_failed r n p.0 b (omega arith)
    ]

failed_test : (t : Bool) (r : RequesterState) → has_failed_below r r.count ≡ t → HasFailed r → t
    ≡ true
failed_test true r e h = refl
failed_test false r e (a, lt, failed) =
    absurd (not_both (has_failed r a) failed (none_failed r r.count e a lt))

pub has_failed_is : (r : RequesterState) → (has_failed_below r r.count ≡ true) ↔ HasFailed r
has_failed_is r = (some_failed r r.count, failed_test (has_failed_below r r.count) r refl)
