-- The step table: the rows of the two roles, put together. RequesterStep and ArbiterStep say which
-- part of a row is published (Maekawa 1985) and which is added here.
use Rattle.std.specs.Prelude.{ℕ, Bool, ◌&&◌, ◌++◌, max, nat_eq, if◌then◌else◌}
use Rattle.mx_stamps.specs.declared.stamp.Stamp.{Stamp}
use Rattle.mx_letters.specs.declared.maekawa.MaekawaMsg.{MaekawaMsg}
use Rattle.mx_letters.specs.declared.maekawa.MaekawaMsg.TheVariants.{Request, Locked, Failed, Inquire, Relinquish, Release}
use Rattle.mx_nodelaws.specs.World.{Done, sending, becoming}
use Rattle.mx_nodelaws.specs.Core.{Core}
use Rattle.mx_nodelaws.specs.Rows.{Rows, core_of}
use Rattle.mx_quorums.specs.Family.{Family, row_of, has_of}
use Rattle.mx_maekawa.specs.Node.{RequesterState, ArbiterState, Node}
use Rattle.mx_maekawa.specs.RequesterStep.{start_requester, is_own, holds_all, asked, take_locked, take_failed, take_inquire, entering, ended, request_again}
use Rattle.mx_maekawa.specs.ArbiterStep.{start_arbiter, take_request, take_relinquish, take_release, lock_letter}

-- a step of the requester, or of the arbiter, as a step of the node; the other role does not change
abbrev pub by_requester : {A : Type 0} → Node → Done RequesterState A MaekawaMsg →
    Done Node A MaekawaMsg
by_requester s did = record {
  state = record s { requester = did.state };
  answer = did.answer;
  letters = did.letters;
}

abbrev pub by_arbiter : Node → Done ArbiterState (Unit {0}) MaekawaMsg →
    Done Node (Unit {0}) MaekawaMsg
by_arbiter s did = record {
  state = record s { arbiter = did.state };
  answer = tt;
  letters = did.letters;
}

-- a node that has just been started: from the sets, the node, the origin and the limit
abbrev pub start_of : Family → ℕ → ℕ → ℕ → Node
start_of shape me origin limit = record {
  quorums = shape;
  requester = start_requester me (row_of shape me) shape.count origin limit;
  arbiter = start_arbiter shape.count origin;
}

-- the requester takes a letter if it is from one of its arbiters, and about a stamp of this node.
-- Added: any other letter to the requester is ignored
abbrev pub is_answer : Node → ℕ → Stamp → Bool
is_answer s from stamp = is_own s.requester from && nat_eq stamp.node s.requester.me

-- the arbiter takes a letter if it is from a node in whose set this node is, and about a stamp of
-- the sender.
-- Added: any other letter to the arbiter is ignored
abbrev pub is_call : Node → ℕ → Stamp → Bool
is_call s from stamp = has_of s.quorums from s.requester.me && nat_eq stamp.node from

-- the clock sees the number of a request, even if the request has ended or a later one has come
abbrev pub seeing : Node → ℕ → Node
seeing s number = record s {
  requester = record (s.requester) { highest = max s.requester.highest number };
}

abbrev pub deliver_of : ℕ → MaekawaMsg → Node → Done Node (Unit {0}) MaekawaMsg
deliver_of from (Request stamp) s =
    if is_call s from stamp
    then by_arbiter (seeing s stamp.number) (take_request stamp s.arbiter)
    else becoming s
deliver_of from (Locked stamp g c) s =
    if is_answer s from stamp
    then by_requester s (take_locked from stamp g c s.requester)
    else becoming s
deliver_of from (Failed stamp) s =
    if is_answer s from stamp
    then by_requester s (take_failed from stamp s.requester)
    else becoming s
deliver_of from (Inquire stamp g) s =
    if is_answer s from stamp
    then by_requester s (take_inquire from stamp g s.requester)
    else becoming s
deliver_of from (Relinquish stamp g) s =
    if is_call s from stamp then by_arbiter s (take_relinquish stamp g s.arbiter) else becoming s
deliver_of from (Release stamp t) s =
    if is_call s from stamp then by_arbiter s (take_release stamp t s.arbiter) else becoming s

-- tick: the request is sent again, and then the grant of the lock. Added, since either may have
-- been lost
abbrev pub tick_of : Node → Done Node (Unit {0}) MaekawaMsg
tick_of s = sending s (request_again s.requester ++ lock_letter s.arbiter.lock)

abbrev pub maekawa_rows : Rows Family Node MaekawaMsg
maekawa_rows = record {
  count = λ shape. shape.count;
  start = start_of;
  phase = λ s. s.requester.phase;
  mine = λ s. s.requester.mine;
  top = λ s. s.requester.top;
  limit = λ s. s.requester.limit;
  counter = λ s. s.requester.highest;
  is_granted = λ s. holds_all s.requester;
  ask = λ s. by_requester s (asked s.requester);
  deliver = deliver_of;
  enter = λ s. record s { requester = entering s.requester };
  leave = λ s. by_requester s (ended s.requester);
  cancel = λ s. by_requester s (ended s.requester);
  tick = tick_of;
}

abbrev pub maekawa_core : Core Family Node MaekawaMsg
maekawa_core = core_of maekawa_rows
