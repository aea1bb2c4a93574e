-- The step table: for each call the node's next state, the result, and the letters that are sent.
-- Each row says which part of it is published (Ricart and Agrawala 1981) and which is added here.
-- Refusals by the phase are in mx_nodelaws, specs/Calls.antt.
use Rattle.std.specs.Prelude.{ℕ, ◌+◌, ◌<◌, ◌≤◌, ◌≡◌, ◌≢◌, Bool, true, false, ◌||◌, ◌&&◌, not, [], ◌∷◌, Option, Some, None, max, nat_lt, nat_eq, if◌then◌else◌, slice_index_or, slice_set, replicate}
use Rattle.mx_stamps.specs.declared.limits.TheConstants.{MAX_NODES}
use Rattle.mx_stamps.specs.declared.stamp.Stamp.{Stamp}
use Rattle.mx_stamps.specs.Stamp.{is_before_of, is_same_as}
use Rattle.mx_letters.specs.declared.ricart.RicartMsg.{RicartMsg}
use Rattle.mx_letters.specs.declared.ricart.RicartMsg.TheVariants.{Request, Reply}
use Rattle.mx_nodelaws.specs.World.{Done, sending, becoming, addressed}
use Rattle.mx_nodelaws.specs.Core.{Core}
use Rattle.mx_nodelaws.specs.declared.phase.Phase.TheVariants.{Idle, Waiting, Inside}
use Rattle.mx_nodelaws.specs.Phases.{is_busy, is_waiting}
use Rattle.mx_nodelaws.specs.Tests.{all_below}
use Rattle.mx_nodelaws.specs.Rows.{Rows, core_of}
use Rattle.mx_ricart.specs.Node.{Node}

-- a cluster may have n nodes
abbrev pub IsCount : ℕ → Type 0
IsCount n = (0 < n) × (n ≤ MAX_NODES)

-- a node that has just been started: from the count, the node, the origin and the limit
abbrev pub start_of : ℕ → ℕ → ℕ → ℕ → Node
start_of count me origin limit = record {
  me = me;
  count = count;
  limit = limit;
  phase = Idle;
  highest = origin;
  ours = record { number = 0; node = me };
  got = replicate MAX_NODES false;
  deferred = replicate MAX_NODES None;
  top = 0;
  mine = 0;
}

-- j is a node of the cluster, and not s itself
abbrev pub is_other : Node → ℕ → Bool
is_other s j = nat_lt j s.count && not (nat_eq j s.me)

-- node j's reply to the current request has counted
abbrev pub has_reply : Node → ℕ → Bool
has_reply s j = slice_index_or s.got j false

-- the request of node j whose reply is deferred, if there is one
abbrev pub deferred_at : Node → ℕ → Option Stamp
deferred_at s j = slice_index_or s.deferred j None

-- the permission: the reply of every other node has counted
abbrev pub HasAllReplies : Node → Type 0
HasAllReplies s = (j : ℕ) → j < s.count → j ≢ s.me → has_reply s j ≡ true

-- the permission as a test, node by node
abbrev pub is_replied : Node → ℕ → Bool
is_replied s j = nat_eq j s.me || has_reply s j

abbrev pub has_all_replies : Node → Bool
has_all_replies s = all_below (is_replied s) s.count

-- ask: the clock's next stamp, no reply yet, and a request to every other node.
-- Published: the process that invokes mutual exclusion, up to its wait for the replies. There the
-- request takes the highest number + 1, and does not change the highest number.
-- Added: the request's number becomes the highest, so that no two requests of a node have the same
-- stamp, and a reply to an older request is recognized by its stamp. As in the publication, the
-- number of a request is above all numbers that its node has seen. If no number remains, the call
-- is refused.
abbrev pub asking : Node → Node
asking s = record s {
  highest = s.highest + 1;
  ours = record { number = s.highest + 1; node = s.me };
  got = replicate MAX_NODES false;
  phase = Waiting;
}

abbrev pub request_others : Node → ℕ → Option RicartMsg
request_others s j = if nat_eq j s.me then None else Some (Request s.ours)

abbrev pub asked : Node → Done Node Stamp RicartMsg
asked s = record {
  state = asking s;
  answer = (asking s).ours;
  letters = addressed (request_others (asking s)) s.count;
}

-- a request comes: the clock sees its number, and the reply is sent at once or deferred.
-- Published: the process that receives REQUEST messages.
-- Added: the reply repeats the stamp of the request, since a reply may come late, and carries
-- `top`, for the numbers of sections. Of two deferred requests of one node only the later is kept,
-- since requests are sent again and may overtake one another.
abbrev pub seeing : Node → ℕ → Node
seeing s number = record s { highest = max s.highest number }

-- the later of the deferred request, if there is one, and the new one
abbrev pub later_of : Option Stamp → Stamp → Stamp
later_of None stamp = stamp
later_of (Some old) stamp = if is_before_of old stamp then stamp else old

abbrev pub deferring : Node → Stamp → Node
deferring s stamp = record s {
  deferred = slice_set s.deferred stamp.node (Some (later_of (deferred_at s stamp.node) stamp));
}

abbrev pub replied : Node → Stamp → Done Node (Unit {0}) RicartMsg
replied s stamp = sending s ((stamp.node, Reply stamp s.top) ∷ [])

-- the reply is deferred if the node's own request is current and comes first
abbrev pub take_request : Node → Stamp → Done Node (Unit {0}) RicartMsg
take_request s stamp =
    if is_busy s.phase && is_before_of s.ours stamp
    then becoming (deferring (seeing s stamp.number) stamp)
    else replied (seeing s stamp.number) stamp

-- a reply comes: it counts once, while the node waits, if it has the current stamp.
-- Published: the process that receives REPLY messages, which counts every reply.
-- Added: these tests, since replies may come late or twice; and the section number `top`.
abbrev pub counting : Node → ℕ → ℕ → Node
counting s from top = record s { got = slice_set s.got from true; top = max s.top top }

abbrev pub take_reply : Node → ℕ → Stamp → ℕ → Done Node (Unit {0}) RicartMsg
take_reply s from stamp top =
    if is_waiting s.phase && (is_same_as stamp s.ours && not (has_reply s from))
    then becoming (counting s from top)
    else becoming s

-- each letter comes from another node, and the stamp of a request is that of its sender.
-- Added: any other letter is ignored.
abbrev pub deliver_of : ℕ → RicartMsg → Node → Done Node (Unit {0}) RicartMsg
deliver_of from (Request stamp) s =
    if is_other s from && nat_eq stamp.node from then take_request s stamp else becoming s
deliver_of from (Reply stamp top) s =
    if is_other s from then take_reply s from stamp top else becoming s

-- enter: the section's number is one above the highest that the node knows.
-- Published: the process that invokes mutual exclusion, once no reply is outstanding.
-- Added: the section's number, and the refusal if the limit is reached.
abbrev pub entering : Node → Node
entering s = record s { top = s.top + 1; mine = s.top + 1; phase = Inside (s.top + 1) }

-- leave: each deferred reply is sent.
-- Published: the end of the process that invokes mutual exclusion.
-- Added: the stamp and `top` in each reply.
-- cancel: the same, for a waiting node. Added: its request ends, and the node does not enter.
abbrev pub ending : Node → Node
ending s = record s { phase = Idle; deferred = replicate MAX_NODES None }

abbrev pub reply_to : Option Stamp → ℕ → Option RicartMsg
reply_to None top = None
reply_to (Some stamp) top = Some (Reply stamp top)

abbrev pub reply_deferred : Node → ℕ → Option RicartMsg
reply_deferred s j = reply_to (deferred_at s j) s.top

abbrev pub ended : Node → Done Node (Unit {0}) RicartMsg
ended s = sending (ending s) (addressed (reply_deferred s) s.count)

-- tick: a waiting node sends its request again to each other node whose reply is missing.
-- Added, since the request or its reply may have been lost.
abbrev pub request_missing : Node → ℕ → Option RicartMsg
request_missing s j = if nat_eq j s.me || has_reply s j then None else Some (Request s.ours)

abbrev pub ticked : Node → Done Node (Unit {0}) RicartMsg
ticked s = sending s (addressed (request_missing s) s.count)

abbrev pub tick_of : Node → Done Node (Unit {0}) RicartMsg
tick_of s = if is_waiting s.phase then ticked s else becoming s

abbrev pub ricart_rows : Rows ℕ Node RicartMsg
ricart_rows = record {
  count = λ count. count;
  start = start_of;
  phase = λ s. s.phase;
  mine = λ s. s.mine;
  top = λ s. s.top;
  limit = λ s. s.limit;
  counter = λ s. s.highest;
  is_granted = has_all_replies;
  ask = asked;
  deliver = deliver_of;
  enter = entering;
  leave = ended;
  cancel = ended;
  tick = tick_of;
}

abbrev pub ricart_core : Core ℕ Node RicartMsg
ricart_core = core_of ricart_rows
