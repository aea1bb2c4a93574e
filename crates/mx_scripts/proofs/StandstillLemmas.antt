-- What is under way.
use Rattle.std.proofs.Common.{◌≡◌, ◌≤◌, ◌<◌, ◌∙◌, ◌&&◌, ◌||◌, ℕ, zero, suc, Bool, true, false, List, [], ◌∷◌, Option, Some, None, IfNone, IfSome, ap, ap₂, arith, length, refl, slice_get, subst, sym}
use Rattle.std.specs.Prelude.{IsTrue, is_some}
use Rattle.std.specs.List.{list_any}
use Rattle.std.proofs.lemmas.Bool.{and_parts, true≢false}
use Rattle.std.proofs.lemmas.List.Folds.{list_any-append, list_any_at}
use Rattle.std.proofs.lemmas.Option.{get_or_from_slice_get}
use Rattle.mx_stamps.specs.Lists.{each_below}
use Rattle.mx_stamps.proofs.Lists.{has_each_below, length_each_below}
use Rattle.mx_lines.specs.declared.orders.Scope.TheVariants.{All}
use Rattle.mx_scripts.specs.Fates.{Fates, IsFirst, NoneWaits, is_in, is_under_way, is_waiting}

-- ---- each parcel that was sent is among all

in_all : {P : Type 0} (sent : List (ℕ × ℕ × P)) (k : ℕ) → k < length sent → is_in All (slice_get sent k) ≡ true
in_all [] k lt = absurd (omega (arith, lt))
in_all (p ∷ sent) zero lt = refl
in_all (p ∷ sent) (suc k) lt = in_all sent k (omega (arith, lt))

sent_in : {P : Type 0} (sent : List (ℕ × ℕ × P)) (k : ℕ) → is_in All (slice_get sent k) ≡ true → k < length sent
sent_in [] k inside = absurd (true≢false (sym inside))
sent_in (p ∷ sent) zero inside = omega arith
sent_in (p ∷ sent) (suc k) inside = let lt = sent_in sent k inside in omega (arith, lt)

left_false : (a b : Bool) → (a && b) ≡ false → b ≡ true → a ≡ false
left_false false b e right = refl
left_false true b e right = absurd (true≢false (sym right ∙ e))

-- ---- some parcel is under way exactly if there is an oldest one

-- number k is one of those below n
one_below : (is : ℕ → Bool) (k n : ℕ) → k < n → is k ≡ true → list_any is (each_below (λ j. j) n) ≡ true
one_below is k n lt there =
    list_any_at is (each_below (λ j. j) n) k 0 (subst (λ (m : ℕ). k < m) (sym (length_each_below (λ j. j) n)) lt)
    (ap is (get_or_from_slice_get (each_below (λ j. j) n) k k 0 (has_each_below (λ j. j) n k lt)) ∙ there)

module _ {P : Type 0} (f : Fates) (sent : List (ℕ × ℕ × P)) where
  none_below : NoneWaits f sent All → (n : ℕ) → n ≤ length sent → list_any (is_under_way f) (each_below (λ j. j) n) ≡ false
  none_below none zero le = refl
  none_below none (suc n) le =
      list_any-append (is_under_way f) (each_below (λ j. j) n) (n ∷ [])
      ∙ ap₂ (λ (a b : Bool). a || (b || false)) (none_below none n (omega (arith, le)))
      (left_false (is_under_way f n) (is_in All (slice_get sent n)) (none n) (in_all sent n (omega (arith, le))))

  one_waits : (k : ℕ) → IsTrue (is_waiting f sent All k) → list_any (is_under_way f) (each_below (λ j. j) (length sent)) ≡ true
  one_waits k waits =
      let parts = and_parts (is_under_way f k) (is_in All (slice_get sent k)) waits in
      one_below (is_under_way f) k (length sent) (sent_in sent k parts.1) parts.0

  pub any_under_way : (oldest : Option ℕ) → IfSome oldest (IsFirst (is_waiting f sent All)) → IfNone oldest (NoneWaits f sent All) → is_some oldest ≡ list_any (is_under_way f) (each_below (λ j. j) (length sent))
  any_under_way None some none = sym (none_below none (length sent) (omega arith))
  any_under_way (Some k) some none = sym (one_waits k some.0)
