-- The outcome of an event in its object.
use Rattle.std.specs.Prelude.{ℕ, Result, Ok, Err, codes, if◌then◌else◌}
use Rattle.std.specs.Option.{option_map_or}
use Rattle.std.specs.Str.{bytes_eq}
use Rattle.serde_json.specs.Data.{Data}
use Rattle.mx_plan.specs.Text.{Text}
use Rattle.mx_events.specs.Events.{kind_of}
use Rattle.mx_events.specs.declared.event.Event.{Event}
use Rattle.mx_events.specs.declared.event.Event.TheVariants.{Ask, Enter, Read, Write, Leave, Cancel, Settle, Tick, Want, Deliver, Restart}
use Rattle.mx_events.specs.declared.kind.EventKind.{EventKind}
use Rattle.mx_events.specs.declared.kind.EventKind.TheVariants as kind
use Rattle.mx_journal.specs.Drafted.{fresh, receipt_of}
use Rattle.mx_trace.specs.Causes.{cause_named}
use Rattle.mx_trace.specs.declared.cause.Cause.{Cause}
use Rattle.mx_trace.specs.declared.cause.Cause.TheVariants.{Gap, Below}
use Rattle.mx_trace.specs.declared.outcome.Outcome.{Outcome}
use Rattle.mx_trace.specs.declared.outcome.Outcome.TheVariants.{Asked, Entered, Value, Written, Left, Cancelled, Settled, Sent, Delivered, Woken, Refused}
use Rattle.mx_judge.specs.Members.{and_then, has_member, number_at, text_at}
use Rattle.mx_judge.specs.declared.members.Member.TheVariants as member
use Rattle.mx_judge.specs.declared.faults.ItemFault.{ItemFault}
use Rattle.mx_judge.specs.declared.faults.ItemFault.TheVariants.{NoOutcome, Wrong}

-- the first word of the outcome of an event that was not refused
abbrev pub word_of_done : EventKind → Text
word_of_done kind.Ask = codes "asked"
word_of_done kind.Enter = codes "entered"
word_of_done kind.Read = codes "value"
word_of_done kind.Write = codes "written"
word_of_done kind.Leave = codes "left"
word_of_done kind.Cancel = codes "cancelled"
word_of_done kind.Settle = codes "settled"
word_of_done kind.Tick = codes "sent"
word_of_done kind.Want = codes "sent"
word_of_done kind.Deliver = codes "delivered"
word_of_done kind.Restart = codes "woken"

-- the outcome `asked` of node i, whose stamp has the object's `number`
abbrev pub asked : ℕ → Data → Result Outcome ItemFault
asked i d = and_then (number_at member.Number d) (λ n. Ok (Asked (record { number = n; node = i })))

-- the outcome `left` of node i. The receipt has the object's `number`, and no reads and writes
abbrev pub left : ℕ → Data → Result Outcome ItemFault
left i d = and_then (number_at member.Number d) (λ n. Ok (Left (receipt_of n i fresh)))

-- the outcome of an event that was not refused
abbrev pub done : Event → Data → Result Outcome ItemFault
done (Ask i) d = asked i d
done (Enter i) d = and_then (number_at member.Number d) (λ n. Ok (Entered n))
done (Read i register) d = and_then (number_at member.Value d) (λ value. Ok (Value value))
done (Write i register value) d = Ok Written
done (Leave i) d = left i d
done (Cancel i) d = Ok Cancelled
done (Settle i upto) d = Ok Settled
done (Tick i) d = and_then (number_at member.Count d) (λ count. Ok (Sent count))
done (Want i other) d = and_then (number_at member.Count d) (λ count. Ok (Sent count))
done (Deliver k) d = Ok Delivered
done (Restart i) d = Ok Woken

-- the cause, a gap or a base with the object's `number`
abbrev pub numbered : Data → Cause → Result Cause ItemFault
numbered d (Gap _) = and_then (number_at member.Number d) (λ n. Ok (Gap n))
numbered d (Below _) = and_then (number_at member.Number d) (λ n. Ok (Below n))
numbered d cause = Ok cause

abbrev pub cause_in : Data → Result Cause ItemFault
cause_in d =
    option_map_or (numbered d) (cause_named (text_at member.Cause d)) (Err (Wrong member.Cause))

abbrev pub refusal : Data → Result Outcome ItemFault
refusal d = and_then (cause_in d) (λ cause. Ok (Refused cause))

-- the outcome of an event: a refusal, or an outcome that its act can have; a fault, if it has none or
-- another
abbrev pub outcome_of : Event → Data → Result Outcome ItemFault
outcome_of event d =
    if bytes_eq (text_at member.Outcome d) (codes "refused") then refusal d
    else if bytes_eq (text_at member.Outcome d) (word_of_done (kind_of event)) then done event d
    else if has_member (codes "outcome") d then Err (Wrong member.Outcome)
    else Err NoOutcome
