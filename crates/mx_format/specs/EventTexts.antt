use Rattle.std.specs.Prelude.{ℕ, [], ◌++◌, Option, Some, None, codes, decimal, length, slice_get, unwrap_or}
use Rattle.mx_events.specs.declared.argument.Argument.{Argument}
use Rattle.mx_events.specs.declared.argument.Argument.TheVariants.{Node, Register, Number}
use Rattle.mx_events.specs.declared.event.Event.{Event}
use Rattle.mx_events.specs.Arguments.{given}
use Rattle.mx_events.specs.Events.{kind_of}
use Rattle.mx_events.specs.Words.{word_of}
use Rattle.mx_trace.specs.declared.cause.Cause.{Cause}
use Rattle.mx_trace.specs.Causes.{cause_number, cause_words}
use Rattle.mx_trace.specs.declared.outcome.Outcome.{Outcome}
use Rattle.mx_trace.specs.declared.outcome.Outcome.TheVariants.{Asked, Entered, Value, Written, Left, Cancelled, Sent, Settled, Delivered, Woken, Refused}
use Rattle.mx_plan.specs.Text.{Text, line_feed}
use Rattle.mx_plan.specs.Fields.{Fields}
use Rattle.mx_format.specs.Lines.{each_text}

abbrev pub name_of : Fields → ℕ → Text
name_of p node = unwrap_or (slice_get p.nodes node) []

abbrev pub register_name_of : Fields → ℕ → Text
register_name_of p register = unwrap_or (slice_get p.registers register) []

-- a word, and a name after it
abbrev pub named : Text → Text → Text
named word name = word ++ codes " " ++ name

-- a word, and a number after it
abbrev pub numbered : Text → ℕ → Text
numbered word number = word ++ codes " " ++ decimal number

-- a word, and a number after it if there is one
abbrev pub with_number : Text → Option ℕ → Text
with_number word None = word
with_number word (Some number) = numbered word number

abbrev pub cause_text : Cause → Text
cause_text cause = with_number (cause_words cause) (cause_number cause)

abbrev pub outcome_text : Outcome → Text
outcome_text (Asked stamp) = numbered (codes "asked") stamp.number
outcome_text (Entered n) = numbered (codes "entered") n
outcome_text (Value value) = numbered (codes "value") value
outcome_text Written = codes "written"
outcome_text (Left receipt) =
    numbered (codes "left") receipt.number
    ++ codes " writes " ++ decimal (length receipt.writes.items)
outcome_text Cancelled = codes "cancelled"
outcome_text (Sent count) = numbered (codes "sent") count
outcome_text Settled = codes "settled"
outcome_text Delivered = codes "delivered"
outcome_text Woken = codes "woken"
outcome_text (Refused cause) = codes "refused " ++ cause_text cause

-- an argument: a name, or a number
abbrev pub argument_text : Fields → Argument → Text
argument_text p (Node node) = name_of p node
argument_text p (Register register) = register_name_of p register
argument_text p (Number number) = decimal number

-- an event, as a file of events has it, without brackets, quotes and commas
abbrev pub event_text : Fields → Event → Text
event_text p event =
    word_of (kind_of event) ++ each_text (λ a. codes " " ++ argument_text p a) (given event)

abbrev pub event_line : Fields → ℕ → Event → Outcome → Text
event_line p k event outcome =
    decimal k ++ codes " " ++ event_text p event ++ codes ": " ++ outcome_text outcome ++ line_feed
