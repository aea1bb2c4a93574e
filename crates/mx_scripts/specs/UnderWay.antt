-- The lists of the parcels under way, one for each link.
use Rattle.std.specs.Prelude.{ℕ, zero, suc, ◌≡◌, ◌≤◌, ◌<◌, ⊤, Bool, true, IsTrue, List, [], ◌∷◌, Option, Some, None, false, length, slice_get, slice_index_or}
use Rattle.mx_events.specs.declared.event.Event.{Event}
use Rattle.mx_events.specs.declared.event.Event.TheVariants.{Deliver}
use Rattle.mx_stamps.specs.Links.{link_of}
use Rattle.mx_scripts.specs.declared.under_way.ListedParcel.{ListedParcel}

-- the parcel, if it was sent, is not under way over this link
abbrev pub IsOff : ℕ → Option ListedParcel → Type 0
IsOff link None = ⊤
IsOff link (Some p) = p.link ≡ link → IsTrue p.is_gone

-- the parcel was sent, and is not under way over this link
abbrev pub IsPassed : ℕ → Option ListedParcel → Type 0
IsPassed link None = ⊥
IsPassed link (Some p) = p.link ≡ link → IsTrue p.is_gone

-- the parcel was sent over this link
abbrev pub IsListedOver : ℕ → Option ListedParcel → Type 0
IsListedOver link None = ⊥
IsListedOver link (Some p) = p.link ≡ link

-- the second parcel was sent, and is not under way over the link of the first
abbrev pub IsSkipped : Option ListedParcel → Option ListedParcel → Type 0
IsSkipped None other = ⊥
IsSkipped (Some p) other = IsPassed p.link other

-- the lists of the links: where each begins and ends, the next in the list for each parcel, and a
-- number below which no parcel is under way
pub record IsOrdered (parcels : List ListedParcel) (next first end : List ℕ) (oldest : ℕ) : Type 0 where
  pub begins : (link k : ℕ) → k < slice_index_or first link 0 → IsPassed link (slice_get parcels k)
  pub skips : (k j : ℕ) → k < j → j < slice_index_or next k 0
      → IsSkipped (slice_get parcels k) (slice_get parcels j)
  pub ends : (link k : ℕ) → slice_index_or end link 0 ≤ k → IsOff link (slice_get parcels k)
  pub old : (link k : ℕ) → k < oldest → IsPassed link (slice_get parcels k)
  pub links : length end ≡ 441

-- parcel k is under way no more
abbrev pub without : ℕ → List ListedParcel → List ListedParcel
without k [] = []
without zero (p ∷ parcels) = (record { link = p.link; is_gone = true }) ∷ parcels
without (suc k) (p ∷ parcels) = p ∷ without k parcels

-- the parcel that the event delivers, if it delivers one, is under way no more
abbrev pub taken_out : Event → List ListedParcel → List ListedParcel
taken_out (Deliver k) parcels = without k parcels
taken_out _ parcels = parcels

-- the link of a listed parcel is that over which it was sent
abbrev pub HasLink : {P : Type 0} → Option (ℕ × ℕ × P) → Option ListedParcel → Type 0
HasLink sent None = ⊤
HasLink None (Some q) = ⊥
HasLink (Some p) (Some q) = q.link ≡ link_of p.0 p.1

-- a listed parcel that is under way no more is gone
abbrev pub IsGone : Type 0 → Option ListedParcel → Type 0
IsGone IsSo None = ⊤
IsGone IsSo (Some q) = IsTrue q.is_gone → IsSo

-- the list has the links of the first parcels of those sent, at least of all that may be under way;
-- those that it says are under way no more are gone
pub record IsListed {P : Type 0} (sent : List (ℕ × ℕ × P)) (gone : List Bool) (parcels : List ListedParcel) : Type 0 where
  pub links : (k : ℕ) → HasLink (slice_get sent k) (slice_get parcels k)
  pub lost : (k : ℕ) → IsGone (IsTrue (slice_index_or gone k false)) (slice_get parcels k)
  pub all : length gone ≤ length parcels
