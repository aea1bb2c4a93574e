-- What a picture with `--letters` draws.
use Rattle.std.specs.Prelude.{◌&&◌, Bool, false, true, not, List, Option, None, Some, slice_get}
use Rattle.mx_member.specs.declared.parcel.Parcel.{Parcel}
use Rattle.mx_member.specs.declared.parcel.Parcel.TheVariants as parcel
use Rattle.mx_events.specs.declared.event.Event.{Event}
use Rattle.mx_events.specs.declared.event.Event.TheVariants as event
use Rattle.mx_trace.specs.declared.outcome.Outcome.{Outcome}
use Rattle.mx_trace.specs.declared.outcome.Outcome.TheVariants as outcome
use Rattle.mx_picture.specs.declared.sheet.Flight.{Flight}

-- a parcel is a letter of the algorithm, and not gossip
abbrev pub is_letter : {M : Type 0} → Parcel M → Bool
is_letter (parcel.Guard letter) = true
is_letter (parcel.Want want) = false
is_letter (parcel.Base base) = false
is_letter (parcel.Records records) = false

-- a parcel that an event sends is a letter, and not one that a tick sends again
abbrev pub is_original : Event → Bool → Bool
is_original (event.Tick node) is_letter = false
is_original _ is_letter = is_letter

-- the next delivery of a parcel is the first of an original letter
abbrev pub is_first : Option Flight → Bool
is_first None = false
is_first (Some flight) = flight.is_original && not flight.is_delivered

abbrev pub changes_phase : Outcome → Bool
changes_phase (outcome.Asked stamp) = true
changes_phase (outcome.Entered number) = true
changes_phase (outcome.Left writes) = true
changes_phase outcome.Cancelled = true
changes_phase _ = false

-- an event is drawn: the first delivery of an original letter, or a change of a node's phase
abbrev pub is_drawn : Event → Outcome → List Flight → Bool
is_drawn (event.Deliver number) came flights = is_first (slice_get flights number)
is_drawn _ came flights = changes_phase came
