-- What has become of parcels.
use Rattle.std.proofs.Common.{◌≡◌, ℕ, zero, suc, Bool, true, false, not, List, [], ◌∷◌, get_or, slice_get, ap, sym, refl}
use Rattle.std.proofs.lemmas.Bool.{true≢false}
use Rattle.std.specs.Prelude.{◌&&◌, IsTrue}
use Rattle.mx_events.specs.declared.event.Event.{Event}
use Rattle.mx_events.specs.declared.event.Event.TheVariants as event
use Rattle.mx_lines.specs.declared.orders.Scope.{Scope}
use Rattle.mx_scripts.specs.Fates.{Fates, delivered, is_held, is_in, is_under_way, is_waiting, is_wanted}
use Rattle.mx_scripts.specs.declared.in_flight.Wanted.{Wanted}
use Rattle.mx_scripts.specs.declared.in_flight.Wanted.TheVariants.{Waiting, Arriving}

-- the event delivers none
pub delivers_none : {P : Type 0} (sent : List (ℕ × ℕ × P)) (e : Event) (f : Fates) → ((k : ℕ) → e ≡ event.Deliver k → ⊥) → delivered sent e f ≡ f
delivers_none sent (event.Deliver k) f h = absurd (h k refl)
delivers_none sent _ f h = refl

-- ---- which parcels are under way

pub and_left : (a b : Bool) → a ≡ false → (a && b) ≡ false
and_left true true e = e
and_left true false e = refl
and_left false b e = refl

and_right : (a b : Bool) → b ≡ false → (a && b) ≡ false
and_right true b e = e
and_right false b e = refl

first_of : (a b : Bool) → (a && b) ≡ true → IsTrue a
first_of true b e = refl
first_of false b e = absurd (true≢false (sym e))

-- ---- parcels that are not wanted

pub true_there : (gone : List Bool) (k : ℕ) → IsTrue (get_or gone k false) → get_or gone k true ≡ true
true_there [] k h = refl
true_there (g ∷ gone) zero h = h
true_there (g ∷ gone) (suc k) h = true_there gone k h

module _ {P : Type 0} (f : Fates) (sent : List (ℕ × ℕ × P)) (scope : Scope) where
  abbrev within : ℕ → Bool
  within k = is_in scope (slice_get sent k)

  pub waiting_under_way : (k : ℕ) → is_waiting f sent scope k ≡ true → IsTrue (is_under_way f k)
  waiting_under_way k e = first_of (is_under_way f k) (within k) e

  -- a parcel that is not under way is not wanted
  not_wanted : (wanted : Wanted) (k : ℕ) → is_waiting f sent scope k ≡ false → is_wanted f sent scope wanted k ≡ false
  not_wanted Waiting k e = e
  not_wanted Arriving k e = and_left (is_waiting f sent scope k) (not (is_held f (slice_get sent k))) e

  -- one that is under way no more is not wanted
  pub gone_wanted : (wanted : Wanted) (k : ℕ) → get_or f.gone k true ≡ true → is_wanted f sent scope wanted k ≡ false
  gone_wanted wanted k gone = not_wanted wanted k (and_left (is_under_way f k) (within k) (ap not gone))

  -- one that was not sent, or is not in the scope, is not wanted
  pub outside_wanted : (wanted : Wanted) (k : ℕ) → is_in scope (slice_get sent k) ≡ false → is_wanted f sent scope wanted k ≡ false
  outside_wanted wanted k outside = not_wanted wanted k (and_right (is_under_way f k) (within k) outside)

  -- one whose link is cut does not arrive
  pub held_arriving : (k : ℕ) → is_held f (slice_get sent k) ≡ true → is_wanted f sent scope Arriving k ≡ false
  held_arriving k held = and_right (is_waiting f sent scope k) (not (is_held f (slice_get sent k))) (ap not held)
