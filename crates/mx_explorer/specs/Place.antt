-- Which parcel a drawn delivery delivers.
use Rattle.std.specs.Prelude.{ℕ, ◌-◌, ◌%◌, Option, Some, None, min, nat_eq, if◌then◌else◌}
use Rattle.mx_events.specs.declared.event.Event.{Event}
use Rattle.mx_events.specs.declared.event.Event.TheVariants.{Deliver}

-- the event that happens for a drawn event. A delivery delivers one of the newest 64 parcels,
-- counted back from the last one by the word; it is skipped, if no parcel was sent
abbrev pub place_of : Event → ℕ → Option Event
place_of (Deliver word) sent =
    if nat_eq sent 0 then None else Some (Deliver (sent - 1 - word % min sent 64))
place_of event sent = Some event
