-- Which parcels are under way, and which links are cut.
use Rattle.std.specs.Prelude.{ℕ, ◌≡◌, ◌<◌, ◌-◌, ◌==◌, ◌&&◌, Bool, true, false, IsTrue, min, not, List, [], ◌++◌, Option, Some, None, length, replicate, slice_get, slice_index_or, slice_set}
use Rattle.mx_events.specs.declared.event.Event.{Event}
use Rattle.mx_events.specs.declared.event.Event.TheVariants.{Deliver}
use Rattle.mx_lines.specs.declared.orders.LinkChange.{LinkChange}
use Rattle.mx_lines.specs.declared.orders.Scope.{Scope}
use Rattle.mx_lines.specs.declared.orders.Scope.TheVariants.{All, Link}
use Rattle.mx_scripts.specs.declared.in_flight.Wanted.{Wanted}
use Rattle.mx_scripts.specs.declared.in_flight.Wanted.TheVariants.{Waiting, Arriving}
use Rattle.mx_scripts.specs.Links.{LinkState, changed, is_cut, uncut}
use Rattle.mx_stamps.specs.Links.{link_of}

-- for each parcel that was sent, whether it is no longer under way; for each link, the number of
-- the parcel that was delivered last over it; and which links are cut
pub record Fates : Type 0 where
  pub gone : List Bool
  pub last : List (Option ℕ)
  pub links : LinkState

-- no parcel was sent yet, and no link is cut
abbrev pub at_first : Fates
at_first = record { gone = []; last = replicate 441 None; links = uncut }

-- the list `gone`, extended to `sent` parcels: the new ones are under way
abbrev pub grown : ℕ → List Bool → List Bool
grown sent gone = gone ++ replicate (sent - length gone) false

abbrev pub lost : ℕ → Fates → Fates
lost k f = record { gone = slice_set f.gone k true; last = f.last; links = f.links }

-- a parcel was delivered: it is no longer under way, and was delivered last over its link
abbrev pub arrived : {P : Type 0} → ℕ → Option (ℕ × ℕ × P) → Fates → Fates
arrived k None f = lost k f
arrived k (Some p) f = record {
  gone = slice_set f.gone k true;
  last = slice_set f.last (link_of p.0 p.1) (Some k);
  links = f.links;
}

-- an event happened: the parcel that it delivers, if it delivers one, has arrived
abbrev pub delivered : {P : Type 0} → List (ℕ × ℕ × P) → Event → Fates → Fates
delivered sent (Deliver k) f = arrived k (slice_get sent k) f
delivered sent _ f = f

-- an event happened, after which `sent` are all parcels ever sent: the new ones are under way, and
-- the parcel that the event delivers has arrived
abbrev pub noted : {P : Type 0} → List (ℕ × ℕ × P) → Event → Fates → Fates
noted sent event f =
    delivered sent event
    (record { gone = grown (length sent) f.gone; last = f.last; links = f.links })

abbrev pub relinked : LinkChange → Fates → Fates
relinked change f = record { gone = f.gone; last = f.last; links = changed change f.links }

abbrev pub is_under_way : Fates → ℕ → Bool
is_under_way f k = not (slice_index_or f.gone k true)

-- k is the first number that satisfies `is_so`: of numbers of parcels, that of the oldest
abbrev pub IsFirst : (ℕ → Bool) → ℕ → Type 0
IsFirst is_so k = IsTrue (is_so k) × ((j : ℕ) → j < k → is_so j ≡ false)

-- the parcel was sent, and its link is cut
abbrev pub is_held : {P : Type 0} → Fates → Option (ℕ × ℕ × P) → Bool
is_held f None = false
is_held f (Some p) = is_cut f.links p.0 p.1

-- the event delivers no parcel over a link that is cut
abbrev pub can_pass : {P : Type 0} → Fates → List (ℕ × ℕ × P) → Event → Bool
can_pass f sent (Deliver k) = not (is_held f (slice_get sent k))
can_pass f sent _ = true

-- the scope, which is all parcels or those of one link, includes those from one node to another
abbrev pub is_within : Scope → ℕ → ℕ → Bool
is_within All from to = true
is_within (Link first second) from to = (from == first) && (to == second)

abbrev pub is_in : {P : Type 0} → Scope → Option (ℕ × ℕ × P) → Bool
is_in scope None = false
is_in scope (Some p) = is_within scope p.0 p.1

module _ {P : Type 0} (f : Fates) (sent : List (ℕ × ℕ × P)) (scope : Scope) where
  abbrev pub is_waiting : ℕ → Bool
  is_waiting k = is_under_way f k && is_in scope (slice_get sent k)

  -- the parcel is under way and in the scope, and its link is not cut
  abbrev pub can_arrive : ℕ → Bool
  can_arrive k = is_waiting k && not (is_held f (slice_get sent k))

  -- the parcel is wanted: it is under way and in the scope, and for `Arriving` its link is not cut
  abbrev pub is_wanted : Wanted → ℕ → Bool
  is_wanted Waiting k = is_waiting k
  is_wanted Arriving k = can_arrive k

  -- no parcel in the scope is under way
  abbrev pub NoneWaits : Type 0
  NoneWaits = (k : ℕ) → is_waiting k ≡ false

-- of two numbers the lesser, or the only one
abbrev pub older : Option ℕ → Option ℕ → Option ℕ
older None other = other
older (Some one) None = Some one
older (Some one) (Some other) = Some (min one other)

-- the first number of a kind that satisfies `is_so`, or none of the kind does
abbrev pub IsOldest : (ℕ → Type 0) → (ℕ → Bool) → Option ℕ → Type 0
IsOldest IsOfKind is_so None = (k : ℕ) → IsOfKind k → is_so k ≡ false
IsOldest IsOfKind is_so (Some k) =
    IsTrue (is_so k) × ((j : ℕ) → j < k → IsOfKind j → is_so j ≡ false)

-- the parcel was sent over the link of this index
abbrev pub IsOver : {P : Type 0} → ℕ → Option (ℕ × ℕ × P) → Type 0
IsOver link None = ⊥
IsOver link (Some p) = link_of p.0 p.1 ≡ link

-- the parcel was sent over a link with an index below this
abbrev pub IsBelow : {P : Type 0} → ℕ → Option (ℕ × ℕ × P) → Type 0
IsBelow link None = ⊥
IsBelow link (Some p) = link_of p.0 p.1 < link
