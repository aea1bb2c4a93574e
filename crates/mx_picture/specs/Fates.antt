-- What becomes of a parcel. One is overtaken if a later one from the same node to the same was
-- delivered.
use Rattle.std.specs.Prelude.{ℕ, Bool, List, Option, None, Some, if◌then◌else◌, max, nat_lt, replicate, slice_index_or, slice_set}
use Rattle.mx_stamps.specs.Links.{link_of}
use Rattle.mx_picture.specs.declared.fates.Fate.{Fate}
use Rattle.mx_picture.specs.declared.fates.Fate.TheVariants.{Overtaken, UnderWay}

-- for each link, the greatest number of a delivered parcel, or 0: at first
abbrev pub none_delivered : List ℕ
none_delivered = replicate 441 0

-- after one more delivery, of a parcel from one node to another
abbrev pub with_delivery : ℕ → ℕ → ℕ → List ℕ → List ℕ
with_delivery from to number newest =
    slice_set newest (link_of from to) (max (slice_index_or newest (link_of from to) 0) number)

-- a later parcel than that of this number was delivered over its link
abbrev pub is_overtaken : ℕ → ℕ → ℕ → List ℕ → Bool
is_overtaken from to number newest = nat_lt number (slice_index_or newest (link_of from to) 0)

-- a parcel arrives or is lost, if that is known; else it may be overtaken
abbrev pub fate_of : Option Fate → Bool → Fate
fate_of (Some fate) _ = fate
fate_of None is_overtaken = if is_overtaken then Overtaken else UnderWay
