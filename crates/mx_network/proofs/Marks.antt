-- What the items of a trace tell, and what an act's answer tells, are the same.
use Rattle.std.proofs.Common.{ℕ, ◌≡◌, List, [], ◌∷◌, ◌++◌, Result, Ok, Err, refl, sym, ◌∙◌, ap, append_assoc}
use Rattle.mx_stamps.proofs.Lists.{append_nil}
use Rattle.mx_nodelaws.specs.declared.faults.EnterFault.{EnterFault}
use Rattle.mx_nodelaws.specs.declared.faults.EnterFault.TheVariants as enter
use Rattle.mx_nodelaws.specs.declared.faults.LeaveFault.{LeaveFault}
use Rattle.mx_nodelaws.specs.declared.faults.LeaveFault.TheVariants as leave
use Rattle.mx_journal.specs.declared.receipts.Receipt.{Receipt}
use Rattle.mx_member.specs.declared.acts.Act.TheVariants as act
use Rattle.mx_member.specs.declared.acts.Answer.TheVariants as answer
use Rattle.mx_member.specs.declared.faults.ReadFault.{ReadFault}
use Rattle.mx_member.specs.declared.faults.ReadFault.TheVariants as read
use Rattle.mx_member.specs.declared.faults.WriteFault.{WriteFault}
use Rattle.mx_member.specs.declared.faults.WriteFault.TheVariants as write
use Rattle.mx_member.specs.Told.{told}
use Rattle.mx_events.specs.declared.event.Event.{Event}
use Rattle.mx_events.specs.declared.event.Event.TheVariants as event
use Rattle.mx_trace.specs.declared.outcome.Outcome.{Outcome}
use Rattle.mx_trace.specs.declared.outcome.Entry.{Entry}
use Rattle.mx_network.specs.Outcome.{outcome_of}
use Rattle.mx_trace.specs.Trace.{mark_of, marks}

marks-append : (es fs : List Entry) → marks (es ++ fs) ≡ marks es ++ marks fs
marks-append [] fs = refl
marks-append (e ∷ es) fs = ap (λ ms. mark_of e.event e.outcome ++ ms) (marks-append es fs) ∙ sym (append_assoc (mark_of e.event e.outcome) (marks es) (marks fs))

-- one item more
pub marks-snoc : (es : List Entry) (e : Event) (o : Outcome) → marks (es ++ record { event = e; outcome = o } ∷ []) ≡ marks es ++ mark_of e o
marks-snoc es e o = marks-append es (record { event = e; outcome = o } ∷ []) ∙ ap (λ ms. marks es ++ ms) (append_nil (mark_of e o))

pub entering : (M : Type 0) (i k : ℕ) (r : Result ℕ EnterFault) → mark_of (event.Enter i) (outcome_of (answer.Entered r) k) ≡ told {M = M} i act.Enter (answer.Entered r)
entering M i k (Ok n) = refl
entering M i k (Err enter.NotWaiting) = refl
entering M i k (Err enter.NotGranted) = refl
entering M i k (Err enter.NumbersSpent) = refl

pub reading : (M : Type 0) (i k register : ℕ) (r : Result ℕ ReadFault) → mark_of (event.Read i register) (outcome_of (answer.Read r) k) ≡ told {M = M} i (act.Read register) (answer.Read r)
reading M i k register (Ok value) = refl
reading M i k register (Err read.NotInside) = refl
reading M i k register (Err read.NoRegister) = refl
reading M i k register (Err (read.Gap n)) = refl
reading M i k register (Err read.Full) = refl
reading M i k register (Err (read.Settled n)) = refl

pub writing : (M : Type 0) (i k register value : ℕ) (r : Result (Unit {0}) WriteFault) → mark_of (event.Write i register value) (outcome_of (answer.Written r) k) ≡ told {M = M} i (act.Write register value) (answer.Written r)
writing M i k register value (Ok done) = refl
writing M i k register value (Err write.NotInside) = refl
writing M i k register value (Err write.NoRegister) = refl
writing M i k register value (Err write.Full) = refl

pub leaving : (M : Type 0) (i k : ℕ) (r : Result Receipt LeaveFault) → mark_of (event.Leave i) (outcome_of (answer.Left r) k) ≡ told {M = M} i act.Leave (answer.Left r)
leaving M i k (Ok receipt) = refl
leaving M i k (Err leave.NotInside) = refl
