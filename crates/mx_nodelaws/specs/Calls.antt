-- What ask, enter, leave and cancel do in each phase of a node, as far as all algorithms share it.
use Rattle.std.specs.Prelude.{ℕ, ◌+◌, Bool, [], Result, Ok, Err, nat_lt, if◌then◌else◌}
use Rattle.mx_stamps.specs.declared.stamp.Stamp.{Stamp}
use Rattle.mx_stamps.specs.Numbers.{last_number}
use Rattle.mx_nodelaws.specs.World.{Done, Quiet, answering}
use Rattle.mx_nodelaws.specs.declared.phase.Phase.{Phase}
use Rattle.mx_nodelaws.specs.declared.phase.Phase.TheVariants.{Idle, Waiting, Inside}
use Rattle.mx_nodelaws.specs.declared.faults.AskFault.{AskFault}
use Rattle.mx_nodelaws.specs.declared.faults.AskFault.TheVariants.{NotIdle, StampsSpent}
use Rattle.mx_nodelaws.specs.declared.faults.CancelFault.{CancelFault}
use Rattle.mx_nodelaws.specs.declared.faults.CancelFault.TheVariants as cancel
use Rattle.mx_nodelaws.specs.declared.faults.EnterFault.{EnterFault}
use Rattle.mx_nodelaws.specs.declared.faults.EnterFault.TheVariants.{NotWaiting, NotGranted, NumbersSpent}
use Rattle.mx_nodelaws.specs.declared.faults.LeaveFault.{LeaveFault}
use Rattle.mx_nodelaws.specs.declared.faults.LeaveFault.TheVariants.{NotInside}

-- a refused call: nothing changes and nothing is sent
abbrev pub unchanged : {S A M : Type 0} → S → A → Done S A M
unchanged s answer = record { state = s; answer = answer; letters = [] }

abbrev pub refused : {S : Type 0} → S → EnterFault → Quiet S (Result ℕ EnterFault)
refused s fault = record { state = s; answer = Err fault }

-- ask: an idle node makes a request, and the result is its stamp, unless the node's counter has
-- reached the last number. A node that waits or is inside is refused
abbrev pub ask_by : {S M : Type 0} → (S → ℕ) → (S → Done S Stamp M) → Phase → S →
    Done S (Result Stamp AskFault) M
ask_by counter asked Idle s =
    if nat_lt (counter s) last_number
    then answering (asked s) (Ok (asked s).answer)
    else unchanged s (Err StampsSpent)
ask_by counter asked Waiting s = unchanged s (Err NotIdle)
ask_by counter asked (Inside n) s = unchanged s (Err NotIdle)

-- an accepted enter: the result is the section's number, one above the highest that the node knows
abbrev pub entered_by : {S : Type 0} → (S → ℕ) → (S → S) → S → Quiet S (Result ℕ EnterFault)
entered_by top entering s = record { state = entering s; answer = Ok (top s + 1) }

-- enter: a waiting node enters if every permission has come, and the highest section number that it
-- knows is below the limit
abbrev pub enter_by : {S : Type 0} → (S → Bool) → (S → ℕ) → (S → ℕ) → (S → S) → Phase → S →
    Quiet S (Result ℕ EnterFault)
enter_by granted top limit entering Idle s = refused s NotWaiting
enter_by granted top limit entering Waiting s =
    if granted s
    then (if nat_lt (top s) (limit s) then entered_by top entering s else refused s NumbersSpent)
    else refused s NotGranted
enter_by granted top limit entering (Inside n) s = refused s NotWaiting

-- leave: a node that is inside leaves, and the result is the number of its section
abbrev pub leave_by : {S M : Type 0} → (S → Done S (Unit {0}) M) → Phase → S →
    Done S (Result ℕ LeaveFault) M
leave_by left Idle s = unchanged s (Err NotInside)
leave_by left Waiting s = unchanged s (Err NotInside)
leave_by left (Inside n) s = answering (left s) (Ok n)

-- cancel: a waiting node withdraws its request
abbrev pub cancel_by : {S M : Type 0} → (S → Done S (Unit {0}) M) → Phase → S →
    Done S (Result (Unit {0}) CancelFault) M
cancel_by cancelled Idle s = unchanged s (Err cancel.NotWaiting)
cancel_by cancelled Waiting s = answering (cancelled s) (Ok tt)
cancel_by cancelled (Inside n) s = unchanged s (Err cancel.NotWaiting)
