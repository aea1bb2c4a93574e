-- The requester's rows of the step table. Each says which part of it is published (Maekawa 1985)
-- and which is added here.
use Rattle.std.specs.Prelude.{ℕ, zero, suc, ◌+◌, ◌<◌, ◌≡◌, Bool, true, false, ◌||◌, ◌&&◌, not, List, [], ◌∷◌, Option, Some, None, Result, max, nat_lt, nat_eq, if◌then◌else◌, slice_index_or, slice_set, replicate}
use Rattle.mx_stamps.specs.declared.limits.TheConstants.{MAX_NODES}
use Rattle.mx_stamps.specs.declared.stamp.Stamp.{Stamp}
use Rattle.mx_stamps.specs.Stamp.{is_same_as}
use Rattle.mx_letters.specs.declared.maekawa.MaekawaMsg.{MaekawaMsg}
use Rattle.mx_letters.specs.declared.maekawa.MaekawaMsg.TheVariants.{Request, Relinquish, Release}
use Rattle.mx_nodelaws.specs.World.{Done, Quiet, sending, becoming, and_then, addressed}
use Rattle.mx_nodelaws.specs.declared.phase.Phase.{Phase}
use Rattle.mx_nodelaws.specs.declared.phase.Phase.TheVariants.{Idle, Waiting, Inside}
use Rattle.mx_nodelaws.specs.declared.faults.AskFault.{AskFault}
use Rattle.mx_nodelaws.specs.declared.faults.CancelFault.{CancelFault}
use Rattle.mx_nodelaws.specs.declared.faults.EnterFault.{EnterFault}
use Rattle.mx_nodelaws.specs.declared.faults.LeaveFault.{LeaveFault}
use Rattle.mx_nodelaws.specs.Phases.{is_busy, is_waiting}
use Rattle.mx_nodelaws.specs.Calls.{ask_by, enter_by, leave_by, cancel_by}
use Rattle.mx_nodelaws.specs.Tests.{all_below}
use Rattle.mx_maekawa.specs.Node.{RequesterState}

-- a requester that has just been started: from its node, its own set, the count, the origin and the
-- limit
abbrev pub start_requester : ℕ → List Bool → ℕ → ℕ → ℕ → RequesterState
start_requester me own count origin limit = record {
  me = me;
  own = own;
  count = count;
  limit = limit;
  phase = Idle;
  highest = origin;
  issued = origin;
  ours = record { number = 0; node = me };
  held = replicate MAX_NODES None;
  back = replicate MAX_NODES origin;
  failed = replicate MAX_NODES false;
  remembered = replicate MAX_NODES None;
  top = 0;
  mine = 0;
}

-- node a is one of its arbiters
abbrev pub is_own : RequesterState → ℕ → Bool
is_own r a = slice_index_or r.own a false

-- the grant of arbiter a that is held, if there is one
abbrev pub held_at : RequesterState → ℕ → Option ℕ
held_at r a = slice_index_or r.held a None

abbrev pub is_some : Option ℕ → Bool
is_some None = false
is_some (Some g) = true

abbrev pub holds : RequesterState → ℕ → Bool
holds r a = is_some (held_at r a)

-- the highest grant that was given back to arbiter a
abbrev pub back_at : RequesterState → ℕ → ℕ
back_at r a = slice_index_or r.back a 0

-- arbiter a has failed the current request or got its grant back, and has not granted the request
-- since
abbrev pub has_failed : RequesterState → ℕ → Bool
has_failed r a = slice_index_or r.failed a false

-- the grant that arbiter a has asked back, if its inquiry is remembered
abbrev pub remembered_at : RequesterState → ℕ → Option ℕ
remembered_at r a = slice_index_or r.remembered a None

-- the permission: a grant of each of its arbiters is held
abbrev pub HoldsAll : RequesterState → Type 0
HoldsAll r = (a : ℕ) → a < r.count → is_own r a ≡ true → holds r a ≡ true

-- the permission as a test, node by node
abbrev pub is_held : RequesterState → ℕ → Bool
is_held r a = not (is_own r a) || holds r a

abbrev pub holds_all : RequesterState → Bool
holds_all r = all_below (is_held r) r.count

-- `has_failed` holds for some arbiter
abbrev pub HasFailed : RequesterState → Type 0
HasFailed r = (a : ℕ) × (a < r.count) × (has_failed r a ≡ true)

-- the same as a test of the arbiters below n, one after another
abbrev pub has_failed_below : RequesterState → ℕ → Bool
has_failed_below r zero = false
has_failed_below r (suc n) = has_failed_below r n || has_failed r n

-- the node waits, and the stamp is that of its request
abbrev pub is_current_wait : RequesterState → Stamp → Bool
is_current_wait r stamp = is_waiting r.phase && is_same_as stamp r.ours

-- a stamp of this node has ended: it was drawn, and is no longer the current one
abbrev pub has_ended : RequesterState → Stamp → Bool
has_ended r stamp =
    not (is_busy r.phase && is_same_as stamp r.ours) && nat_lt stamp.number (r.issued + 1)

-- a step of the requester: its next state, its result and its letters
abbrev pub RequesterDone : Type 0 → Type 0
RequesterDone A = Done RequesterState A MaekawaMsg

-- one letter to arbiter a
abbrev pub saying : RequesterState → ℕ → MaekawaMsg → RequesterDone (Unit {0})
saying r a letter = sending r ((a, letter) ∷ [])

-- the grant that arbiter b has asked back is given back, if its inquiry is remembered
abbrev pub giving_remembered : RequesterState → ℕ → ℕ → RequesterState
giving_remembered r b g = record r {
  back = slice_set r.back b g;
  held = slice_set r.held b None;
  remembered = slice_set r.remembered b None;
  failed = slice_set r.failed b true;
}

abbrev pub giving : Option ℕ → RequesterState → ℕ → RequesterDone (Unit {0})
giving None r b = becoming r
giving (Some g) r b = saying (giving_remembered r b g) b (Relinquish r.ours g)

abbrev pub give_remembered : ℕ → RequesterState → RequesterDone (Unit {0})
give_remembered b r = giving (remembered_at r b) r b

-- the same for each of the arbiters below n, in order
abbrev pub give_below : ℕ → RequesterState → RequesterDone (Unit {0})
give_below zero r = becoming r
give_below (suc n) r = and_then (give_below n r) (give_remembered n)

-- Fail: arbiter a has failed the request, and each grant of a remembered inquiry is given back.
-- Published: RELINQUISH follows each inquiry that was put off, once the node has received FAILED.
abbrev pub failing : RequesterState → ℕ → RequesterState
failing r a = record r { failed = slice_set r.failed a true }

abbrev pub fail : ℕ → RequesterState → RequesterDone (Unit {0})
fail a r = give_below r.count (failing r a)

-- ask: the clock's next stamp, no grant yet, and a request to each of its arbiters.
-- Published: a REQUEST goes to every member of the node's set.
-- Added: if no number remains, the call is refused.
abbrev pub asking : RequesterState → RequesterState
asking r = record r {
  highest = r.highest + 1;
  issued = r.highest + 1;
  ours = record { number = r.highest + 1; node = r.me };
  held = replicate MAX_NODES None;
  failed = replicate MAX_NODES false;
  remembered = replicate MAX_NODES None;
  phase = Waiting;
}

-- the letter, to each of its arbiters
abbrev pub to_own : RequesterState → MaekawaMsg → ℕ → Option MaekawaMsg
to_own r letter a = if is_own r a then Some letter else None

abbrev pub asked : RequesterState → RequesterDone Stamp
asked r = record {
  state = asking r;
  answer = (asking r).ours;
  letters = addressed (to_own r (Request (asking r).ours)) r.count;
}

abbrev pub ask_in : Phase → RequesterState → RequesterDone (Result Stamp AskFault)
ask_in p r = ask_by (λ (x : RequesterState). x.highest) asked p r

-- the reply to a LOCKED or INQUIRE for an ended stamp is a release.
-- Added, since the release of that stamp may have been lost, and the arbiter would stay locked for
-- the stamp.
abbrev pub release_ended : RequesterState → Stamp → ℕ → RequesterDone (Unit {0})
release_ended r stamp a = if has_ended r stamp then saying r a (Release stamp r.top) else becoming r

-- LOCKED from arbiter a, for the current request, while no grant of a is held.
-- Published: the grant is held.
-- Added: the tests of stamp and grant number, since a LOCKED may come late or twice. A grant that
-- was given back does not count again and is given back again, as the RELINQUISH may have been
-- lost. `top` rises to the section number of the grant, if that is higher.
abbrev pub holding : RequesterState → ℕ → ℕ → ℕ → RequesterState
holding r a g c = record r {
  held = slice_set r.held a (Some g);
  failed = slice_set r.failed a false;
  top = max r.top c;
}

abbrev pub locked_fresh : ℕ → Stamp → ℕ → ℕ → RequesterState → RequesterDone (Unit {0})
locked_fresh a stamp g c r =
    if nat_lt (back_at r a) g then becoming (holding r a g c) else saying r a (Relinquish stamp g)

abbrev pub locked_current : ℕ → Stamp → ℕ → ℕ → RequesterState → RequesterDone (Unit {0})
locked_current a stamp g c r = if holds r a then becoming r else locked_fresh a stamp g c r

abbrev pub take_locked : ℕ → Stamp → ℕ → ℕ → RequesterState → RequesterDone (Unit {0})
take_locked a stamp g c r =
    if is_current_wait r stamp then locked_current a stamp g c r else release_ended r stamp a

-- FAILED from arbiter a, for the current request, while no grant of a is held.
-- Published: the node then knows that it does not get every grant yet: this is Fail.
-- Added: the test of the stamp, and the test that no grant of a is held, since a FAILED may come
-- late.
abbrev pub take_failed : ℕ → Stamp → RequesterState → RequesterDone (Unit {0})
take_failed a stamp r = if is_current_wait r stamp && not (holds r a) then fail a r else becoming r

-- INQUIRE from arbiter a for the grant that is held: the grant is given back if some arbiter has
-- failed, and otherwise the inquiry is remembered.
-- Published: the same, with RELINQUISH for a grant that is given back.
-- Added: the tests of stamp and grant number.
abbrev pub giving_now : RequesterState → ℕ → ℕ → RequesterState
giving_now r a g = record r {
  back = slice_set r.back a g;
  held = slice_set r.held a None;
  failed = slice_set r.failed a true;
}

abbrev pub remembering : RequesterState → ℕ → ℕ → RequesterState
remembering r a g = record r { remembered = slice_set r.remembered a (Some g) }

abbrev pub inquired_held : ℕ → Stamp → ℕ → RequesterState → RequesterDone (Unit {0})
inquired_held a stamp g r =
    if has_failed_below r r.count
    then saying (giving_now r a g) a (Relinquish stamp g)
    else becoming (remembering r a g)

-- INQUIRE for a grant that has not come: it is given back at once, and arbiter a has failed.
-- Added, since the LOCKED may have been lost or overtaken.
abbrev pub declining : RequesterState → ℕ → ℕ → RequesterState
declining r a g = record r { back = slice_set r.back a (max (back_at r a) g) }

abbrev pub inquired_missing : ℕ → Stamp → ℕ → RequesterState → RequesterDone (Unit {0})
inquired_missing a stamp g r = and_then (saying (declining r a g) a (Relinquish stamp g)) (fail a)

-- INQUIRE from arbiter a for grant g, by the grant of a that is held: none, g or another. If it is
-- another, g is given back, and nothing else happens.
-- Added, since an INQUIRE may come late.
abbrev pub inquired : Option ℕ → ℕ → Stamp → ℕ → RequesterState → RequesterDone (Unit {0})
inquired None a stamp g r = inquired_missing a stamp g r
inquired (Some h) a stamp g r =
    if nat_eq h g then inquired_held a stamp g r else saying r a (Relinquish stamp g)

abbrev pub take_inquire : ℕ → Stamp → ℕ → RequesterState → RequesterDone (Unit {0})
take_inquire a stamp g r =
    if is_current_wait r stamp then inquired (held_at r a) a stamp g r else release_ended r stamp a

abbrev pub can_enter_of : RequesterState → Bool
can_enter_of r = is_waiting r.phase && holds_all r

-- enter: the section's number is one above the highest that the node knows.
-- Published: the node enters once every member of its set has sent LOCKED.
-- Added: the section's number, and the refusal if the limit is reached.
abbrev pub entering : RequesterState → RequesterState
entering r = record r {
  top = r.top + 1;
  mine = r.top + 1;
  phase = Inside (r.top + 1);
  remembered = replicate MAX_NODES None;
}

abbrev pub enter_in : Phase → RequesterState → Quiet RequesterState (Result ℕ EnterFault)
enter_in p r =
    enter_by holds_all (λ (x : RequesterState). x.top) (λ (x : RequesterState). x.limit)
    entering p r

-- leave: each of its arbiters is sent a release.
-- Published: the same.
-- Added: the release carries the stamp that has ended, and `top`.
-- cancel: the same, for a waiting node. Added: its request ends, and the node does not enter.
abbrev pub ending : RequesterState → RequesterState
ending r = record r {
  phase = Idle;
  held = replicate MAX_NODES None;
  failed = replicate MAX_NODES false;
  remembered = replicate MAX_NODES None;
}

abbrev pub ended : RequesterState → RequesterDone (Unit {0})
ended r = sending (ending r) (addressed (to_own r (Release r.ours r.top)) r.count)

abbrev pub leave_in : Phase → RequesterState → RequesterDone (Result ℕ LeaveFault)
leave_in p r = leave_by ended p r

abbrev pub cancel_in : Phase → RequesterState → RequesterDone (Result (Unit {0}) CancelFault)
cancel_in p r = cancel_by ended p r

-- tick: a waiting node sends its request again to each of its arbiters whose grant is missing.
-- Added, since the request or the grant may have been lost.
abbrev pub to_missing : RequesterState → MaekawaMsg → ℕ → Option MaekawaMsg
to_missing r letter a = if is_own r a && not (holds r a) then Some letter else None

abbrev pub request_again : RequesterState → List (ℕ × MaekawaMsg)
request_again r =
    if is_waiting r.phase then addressed (to_missing r (Request r.ours)) r.count else []
