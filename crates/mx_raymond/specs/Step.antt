-- The step table: for each call the node's next state, the result, and the letters that are sent.
-- Each row says which part of it is published (Raymond 1989) and which is added here. Refusals by
-- the phase are in mx_nodelaws, specs/Calls.antt.
use Rattle.std.specs.Prelude.{ℕ, ◌+◌, ◌≡◌, Bool, true, false, ◌&&◌, not, List, [], ◌∷◌, ◌++◌, Option, Some, None, max, nat_lt, nat_eq, if◌then◌else◌, slice_index_or, slice_set, replicate}
use Rattle.mx_stamps.specs.declared.limits.TheConstants.{MAX_NODES}
use Rattle.mx_stamps.specs.declared.stamp.Stamp.{Stamp}
use Rattle.mx_stamps.specs.Numbers.{last_number}
use Rattle.mx_letters.specs.declared.raymond.RaymondMsg.{RaymondMsg}
use Rattle.mx_letters.specs.declared.raymond.RaymondMsg.TheVariants.{Request, Privilege, Got}
use Rattle.mx_nodelaws.specs.World.{Done, answering, sending, becoming, and_then}
use Rattle.mx_nodelaws.specs.Core.{Core}
use Rattle.mx_nodelaws.specs.declared.phase.Phase.TheVariants.{Idle, Waiting, Inside}
use Rattle.mx_nodelaws.specs.Phases.{is_inside}
use Rattle.mx_nodelaws.specs.Rows.{Rows, core_of}
use Rattle.mx_trees.specs.Tree.{Rooted, toward_of, are_neighbours}
use Rattle.mx_raymond.specs.declared.unacked.Unacked.{Unacked}
use Rattle.mx_raymond.specs.Queue.{is_empty, head_of, rest_of, joined, without}
use Rattle.mx_raymond.specs.Node.{Node}

-- a step of the node: its next state, its result and its letters
abbrev pub NodeDone : Type 0 → Type 0
NodeDone A = Done Node A RaymondMsg

-- a node that has just been started: from the tree, the node, the origin and the limit
abbrev pub start_of : Rooted → ℕ → ℕ → ℕ → Node
start_of tree me origin limit = record {
  me = me;
  tree = tree;
  limit = limit;
  phase = Idle;
  holder = toward_of tree me;
  queue = [];
  has_asked = false;
  hop = origin;
  unacked = None;
  asks = 0;
  sent = 0;
  heard = replicate MAX_NODES 0;
  top = 0;
  mine = 0;
}

-- the node has the privilege
abbrev pub is_holder : Node → Bool
is_holder s = nat_eq s.holder s.me

-- the permission: the node has the privilege, and is at the head of its own queue
abbrev pub HasPermission : Node → Type 0
HasPermission s = (s.holder ≡ s.me) × (head_of s.queue ≡ Some s.me)

-- the permission as a test
abbrev pub is_named : Option ℕ → ℕ → Bool
is_named None node = false
is_named (Some name) node = nat_eq name node

abbrev pub has_permission : Node → Bool
has_permission s = is_holder s && is_named (head_of s.queue) s.me

-- Assign: a node that has the privilege and is not inside passes the privilege on to the head of
-- its queue, if that is another node.
-- Published: procedure ASSIGN_PRIVILEGE. The case of a node that is at the head of its own queue is
-- `enter` here.
-- Added: the hop, by which an old privilege is recognized; `unacked`, so that the privilege can be
-- sent again; the highest section number. If no hop remains, the privilege stays.
abbrev pub can_pass : Node → ℕ → Bool
can_pass s next =
    is_holder s && (not (is_inside s.phase) && (not (nat_eq next s.me) && nat_lt s.hop last_number))

abbrev pub passing : Node → ℕ → Node
passing s next = record s {
  holder = next;
  queue = rest_of s.queue;
  has_asked = false;
  hop = s.hop + 1;
  unacked = Some (record { to = next; hop = s.hop + 1; last = s.top });
}

abbrev pub passed : Node → ℕ → NodeDone (Unit {0})
passed s next = sending (passing s next) ((next, Privilege (s.hop + 1) s.top) ∷ [])

abbrev pub assign_privilege_to : Option ℕ → Node → NodeDone (Unit {0})
assign_privilege_to None s = becoming s
assign_privilege_to (Some next) s = if can_pass s next then passed s next else becoming s

abbrev pub assign_privilege : Node → NodeDone (Unit {0})
assign_privilege s = assign_privilege_to (head_of s.queue) s

-- Make: a node that wants the privilege and does not have it sends one request to its holder.
-- Published: procedure MAKE_REQUEST.
-- Added: the request's number, by which an old request is recognized; no request is sent if no
-- number remains.
abbrev pub must_request : Node → Bool
must_request s =
    not (is_holder s) && (not (is_empty s.queue) && (not s.has_asked && nat_lt s.sent last_number))

abbrev pub requesting : Node → Node
requesting s = record s { has_asked = true; sent = s.sent + 1 }

abbrev pub requested : Node → NodeDone (Unit {0})
requested s = sending (requesting s) ((s.holder, Request (s.sent + 1)) ∷ [])

abbrev pub make_request : Node → NodeDone (Unit {0})
make_request s = if must_request s then requested s else becoming s

-- a step, then Assign, then Make
abbrev pub serving : {A : Type 0} → NodeDone A → NodeDone A
serving step = and_then (and_then step assign_privilege) make_request

-- ask: the node joins its own queue; then Assign and Make.
-- Published: the node wishes to enter the critical section.
-- Added: the stamp, whose number counts the accepted calls of `ask`; if no number remains, the call
-- is refused.
abbrev pub asking : Node → Node
asking s = record s { phase = Waiting; queue = s.queue ++ s.me ∷ []; asks = s.asks + 1 }

abbrev pub asked : Node → NodeDone Stamp
asked s = serving (answering (becoming (asking s)) (record { number = s.asks + 1; node = s.me }))

-- the privilege that the node sent last is sent again, while its arrival is not known
abbrev pub privilege_again : Option Unacked → List (ℕ × RaymondMsg)
privilege_again None = []
privilege_again (Some u) = (u.to, Privilege u.hop u.last) ∷ []

-- a request of the holder: when it was sent, the holder did not have the privilege. The privilege
-- is sent again to the node that it was sent to, if its arrival is not known. That node is the
-- holder (`unacked` of `IsState`), and so the sender of the request.
-- Added, since the privilege may have been lost.
abbrev pub take_holders_request : Node → NodeDone (Unit {0})
take_holders_request s = sending s (privilege_again s.unacked)

-- a request of another neighbour, which joins the queue; then Assign and Make.
-- Published: the node receives a REQUEST.
-- Added: the test of the request's number, since a request may come late or twice; a neighbour that
-- is in the queue already stays in its place.
abbrev pub heard_from : Node → ℕ → ℕ
heard_from s from = slice_index_or s.heard from 0

abbrev pub queueing : Node → ℕ → ℕ → Node
queueing s from number = record s {
  queue = joined s.queue from;
  heard = slice_set s.heard from number;
}

abbrev pub take_others_request : ℕ → ℕ → Node → NodeDone (Unit {0})
take_others_request from number s =
    if nat_lt (heard_from s from) number
    then serving (becoming (queueing s from number))
    else becoming s

abbrev pub take_request : ℕ → ℕ → Node → NodeDone (Unit {0})
take_request from number s =
    if nat_eq from s.holder then take_holders_request s else take_others_request from number s

-- a privilege: its arrival is acknowledged each time, and it counts only if its hop is new; then
-- Assign and Make.
-- Published: the node receives the PRIVILEGE. There ASKED is cleared when the privilege is used or
-- passed on.
-- Added: ASKED is cleared at once. This changes nothing else: no row depends on ASKED while the
-- node has the privilege, and passing the privilege on clears ASKED, as in the publication. The
-- acknowledgement, and the test of the hop, since a privilege may come late or twice; `top` rises
-- to the section number of the privilege, if that is higher.
abbrev pub holding : Node → ℕ → ℕ → Node
holding s hop last = record s {
  holder = s.me;
  has_asked = false;
  hop = hop;
  unacked = None;
  top = max s.top last;
}

abbrev pub acknowledging : Node → ℕ → ℕ → NodeDone (Unit {0})
acknowledging s from hop = sending s ((from, Got hop) ∷ [])

abbrev pub take_privilege : ℕ → ℕ → ℕ → Node → NodeDone (Unit {0})
take_privilege from hop last s =
    if nat_lt s.hop hop
    then serving (acknowledging (holding s hop last) from hop)
    else acknowledging s from hop

-- an acknowledgement: the privilege that was sent last has arrived.
-- Added, so that a privilege is sent again only until its arrival is known.
abbrev pub is_unacked : Option Unacked → ℕ → ℕ → Bool
is_unacked None from hop = false
is_unacked (Some u) from hop = nat_eq u.to from && nat_eq u.hop hop

abbrev pub take_got : ℕ → ℕ → Node → NodeDone (Unit {0})
take_got from hop s =
    if is_unacked s.unacked from hop then becoming (record s { unacked = None }) else becoming s

-- each letter comes from a neighbour. Added: any other letter is ignored
abbrev pub is_neighbour : Node → ℕ → Bool
is_neighbour s from = are_neighbours s.tree s.me from

abbrev pub deliver_of : ℕ → RaymondMsg → Node → NodeDone (Unit {0})
deliver_of from (Request number) s =
    if is_neighbour s from then take_request from number s else becoming s
deliver_of from (Privilege hop last) s =
    if is_neighbour s from then take_privilege from hop last s else becoming s
deliver_of from (Got hop) s = if is_neighbour s from then take_got from hop s else becoming s

-- enter: the node is removed from the head of its queue, and the section's number is one above the
-- highest that the node knows.
-- Published: procedure ASSIGN_PRIVILEGE, if the node that has the privilege is at the head of its
-- own queue.
-- Added: the section's number, and the refusal if the limit is reached.
abbrev pub entering : Node → Node
entering s = record s {
  phase = Inside (s.top + 1);
  queue = rest_of s.queue;
  top = s.top + 1;
  mine = s.top + 1;
}

-- leave: the node becomes idle; then Assign and Make.
-- Published: the node exits the critical section.
-- Added: nothing.
abbrev pub leaving : Node → Node
leaving s = record s { phase = Idle }

abbrev pub left : Node → NodeDone (Unit {0})
left s = serving (becoming (leaving s))

-- cancel: the node becomes idle and is removed from its own queue; then Assign and Make. A request
-- that it has sent to its holder is not withdrawn, and the privilege that comes for this request is
-- kept, or passed on.
-- Added, as the publication has no way to withdraw a request.
abbrev pub withdrawing : Node → Node
withdrawing s = record s { phase = Idle; queue = without s.queue s.me }

abbrev pub cancelled : Node → NodeDone (Unit {0})
cancelled s = serving (becoming (withdrawing s))

-- tick: the node sends again the privilege that it sent last, if the arrival is not known, and then
-- its latest request, if the privilege has not come since.
-- Added, since either may have been lost.
abbrev pub request_again : Node → List (ℕ × RaymondMsg)
request_again s = if s.has_asked && not (is_holder s) then (s.holder, Request s.sent) ∷ [] else []

abbrev pub tick_of : Node → NodeDone (Unit {0})
tick_of s = sending s (privilege_again s.unacked ++ request_again s)

abbrev pub raymond_rows : Rows Rooted Node RaymondMsg
raymond_rows = record {
  count = λ tree. tree.count;
  start = start_of;
  phase = λ s. s.phase;
  mine = λ s. s.mine;
  top = λ s. s.top;
  limit = λ s. s.limit;
  counter = λ s. s.asks;
  is_granted = has_permission;
  ask = asked;
  deliver = deliver_of;
  enter = entering;
  leave = left;
  cancel = cancelled;
  tick = tick_of;
}

abbrev pub raymond_core : Core Rooted Node RaymondMsg
raymond_core = core_of raymond_rows
