-- The reads of a walk: none is refused for a gap.
use Rattle.std.specs.Prelude.{◌≡◌, List, Option, Some, None}
use Rattle.mx_stamps.specs.Lists.{IsIn}
use Rattle.mx_events.specs.declared.event.Event.{Event}
use Rattle.mx_events.specs.declared.event.Event.TheVariants.{Read}
use Rattle.mx_trace.specs.declared.cause.Cause.{Cause}
use Rattle.mx_trace.specs.declared.cause.Cause.TheVariants.{Gap}
use Rattle.mx_trace.specs.declared.outcome.Entry.{Entry}
use Rattle.mx_trace.specs.declared.outcome.Outcome.TheVariants.{Refused}
use Rattle.mx_cli.specs.declared.request.Conditions.{Conditions}

-- the event is a read, and the cause is that its node's journal lacks an earlier section
abbrev pub IsVainRead : Event → Cause → Type 0
IsVainRead (Read i register) (Gap n) = Unit {0}
IsVainRead _ _ = ⊥

-- no read of the trace was refused for a gap
abbrev pub HasNoVainRead : List Entry → Type 0
HasNoVainRead trace =
    (entry : Entry) (cause : Cause) → IsIn entry trace → entry.outcome ≡ Refused cause →
    IsVainRead entry.event cause → ⊥

-- a run that is a walk, under some conditions, adds no such read to a trace without one
abbrev pub AddsNoVainRead : Option Conditions → List Entry → List Entry → Type 0
AddsNoVainRead None old new = Unit {0}
AddsNoVainRead (Some conditions) old new = HasNoVainRead old → HasNoVainRead new
