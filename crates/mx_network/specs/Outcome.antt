use Rattle.std.specs.Prelude.{ℕ, Ok, Err}
use Rattle.mx_nodelaws.specs.declared.faults.AskFault.TheVariants as ask
use Rattle.mx_nodelaws.specs.declared.faults.CancelFault.TheVariants as cancel
use Rattle.mx_nodelaws.specs.declared.faults.EnterFault.TheVariants as enter
use Rattle.mx_nodelaws.specs.declared.faults.LeaveFault.TheVariants as leave
use Rattle.mx_journal.specs.declared.settlement.SettleFault.TheVariants as settle
use Rattle.mx_member.specs.declared.acts.Answer.{Answer}
use Rattle.mx_member.specs.declared.acts.Answer.TheVariants as answer
use Rattle.mx_member.specs.declared.faults.ReadFault.TheVariants as read
use Rattle.mx_member.specs.declared.faults.WriteFault.TheVariants as write
use Rattle.mx_trace.specs.declared.outcome.Outcome.{Outcome}
use Rattle.mx_trace.specs.declared.outcome.Outcome.TheVariants.{Asked, Entered, Value, Written, Left, Cancelled, Settled, Sent, Delivered, Woken, Refused}
use Rattle.mx_trace.specs.declared.cause.Cause.TheVariants as cause

-- the outcome in a trace, by the result of an act and the number of parcels that the act sent. In a
-- cluster no read is refused because its own section is settled, so the outcome of `read.Settled`
-- never occurs
abbrev pub outcome_of : Answer → ℕ → Outcome
outcome_of (answer.Asked (Ok stamp)) sent = Asked stamp
outcome_of (answer.Asked (Err ask.NotIdle)) sent = Refused cause.NotIdle
outcome_of (answer.Asked (Err ask.StampsSpent)) sent = Refused cause.StampsSpent
outcome_of (answer.Entered (Ok n)) sent = Entered n
outcome_of (answer.Entered (Err enter.NotWaiting)) sent = Refused cause.NotWaiting
outcome_of (answer.Entered (Err enter.NotGranted)) sent = Refused cause.NotGranted
outcome_of (answer.Entered (Err enter.NumbersSpent)) sent = Refused cause.NumbersSpent
outcome_of (answer.Read (Ok value)) sent = Value value
outcome_of (answer.Read (Err read.NotInside)) sent = Refused cause.NotInside
outcome_of (answer.Read (Err read.NoRegister)) sent = Refused cause.NoRegister
outcome_of (answer.Read (Err (read.Gap n))) sent = Refused (cause.Gap n)
outcome_of (answer.Read (Err read.Full)) sent = Refused cause.Full
outcome_of (answer.Read (Err (read.Settled n))) sent = Refused (cause.Below n)
outcome_of (answer.Written (Ok done)) sent = Written
outcome_of (answer.Written (Err write.NotInside)) sent = Refused cause.NotInside
outcome_of (answer.Written (Err write.NoRegister)) sent = Refused cause.NoRegister
outcome_of (answer.Written (Err write.Full)) sent = Refused cause.Full
outcome_of (answer.Left (Ok receipt)) sent = Left receipt
outcome_of (answer.Left (Err leave.NotInside)) sent = Refused cause.NotInside
outcome_of (answer.Cancelled (Ok done)) sent = Cancelled
outcome_of (answer.Cancelled (Err cancel.NotWaiting)) sent = Refused cause.NotWaiting
outcome_of (answer.Settled (Ok done)) sent = Settled
outcome_of (answer.Settled (Err (settle.Below n))) sent = Refused (cause.Below n)
outcome_of (answer.Settled (Err (settle.Gap n))) sent = Refused (cause.Gap n)
outcome_of answer.Ticked sent = Sent sent
outcome_of answer.Wanted sent = Sent sent
outcome_of answer.Delivered sent = Delivered
outcome_of answer.Woken sent = Woken
