use Rattle.std.specs.Prelude.{ℕ, ◌-◌, ◌≡◌, ◌<◌, List, [], ◌∷◌, ◌++◌, Vec, get_or, min}
use Rattle.std.specs.declared.alloc.Global.{Global}
use Rattle.mx_member.specs.declared.parcel.Parcel.{Parcel}
use Rattle.mx_member.specs.declared.parcel.Parcel.TheVariants.{Want}
use Rattle.mx_network.specs.declared.parcel_log.Sending.{Sending}

-- the parcels that were sent, in order, and for how many more there is room
pub record ParcelLogState (M : Type 0) : Type 0 where
  pub sent : List (ℕ × ℕ × Parcel M)
  pub room : ℕ

-- the parcel that is stored at this place; an empty want if the place is after the last one
abbrev pub kept_at : {M : Type 0} → List (Parcel M) → ℕ → Parcel M
kept_at kept place = get_or kept place (Want (record { items = [] }))

-- the parcels that were sent, each with sender and addressee, by the places where they are stored
abbrev pub sent_of : {M : Type 0} → List (Parcel M) → List Sending → List (ℕ × ℕ × Parcel M)
sent_of kept [] = []
sent_of kept (s ∷ ss) = (s.from, s.to, kept_at kept s.place) ∷ sent_of kept ss

-- the place of each sending is below this number of stored parcels
abbrev pub AreKept : ℕ → List Sending → Type 0
AreKept kept [] = Unit {0}
AreKept kept (s ∷ ss) = (s.place < kept) × AreKept kept ss

-- how many more parcels both lists have room for
abbrev pub room_in : {M : Type 0} → Vec (Parcel M) Global → Vec Sending Global → ℕ
room_in kept sendings = min (kept.cap - kept.len) (sendings.cap - sendings.len)

abbrev pub EndsWith : {M : Type 0} → Parcel M → List (Parcel M) → Type 0
EndsWith {M} parcel kept = (front : List (Parcel M)) × (kept ≡ front ++ parcel ∷ [])

-- the last stored parcel is this one, and those stored before remain
pub record IsKeptIn {M : Type 0} (parcel : Parcel M) (old new : List (Parcel M)) : Type 0 where
  pub last : EndsWith parcel new
  pub more : (rest : List (Parcel M)) × (new ≡ old ++ rest)
