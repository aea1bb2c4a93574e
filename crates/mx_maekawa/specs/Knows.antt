-- What a node knows, as the facts that it shows: as a requester, and then as an arbiter.
use Rattle.std.specs.Prelude.{ℕ, List, [], ◌++◌, Option, Some, None, codes, if◌then◌else◌}
use Rattle.mx_nodelaws.specs.Phases.{is_busy, is_waiting}
use Rattle.mx_knowledge.specs.declared.fact.Item.{Item}
use Rattle.mx_knowledge.specs.declared.fact.Item.TheVariants as item
use Rattle.mx_knowledge.specs.Facts.{Known, listed, one, word}
use Rattle.mx_knowledge.specs.Tables.{below, node_at, number_at, stamp_at}
use Rattle.mx_maekawa.specs.declared.lock.Lock.{Lock}
use Rattle.mx_maekawa.specs.Node.{ArbiterState, Node, RequesterState}
use Rattle.mx_maekawa.specs.RequesterStep.{holds_all, is_held}

-- the stamp of its request, while the node waits or is inside
abbrev pub request_of : RequesterState → List Known
request_of r = if is_busy r.phase then one (codes "request") (item.Stamp r.ours) else []

-- node a, if it is one of the arbiters of this node, and its grant is not held
abbrev pub missing_at : RequesterState → ℕ → Option Item
missing_at r a = if is_held r a then None else Some (item.Node a)

-- the arbiters whose grants are missing; if none is, `may enter`
abbrev pub missing_of : RequesterState → List Known
missing_of r =
    if holds_all r then word (codes "may enter")
    else listed (codes "missing") (below (missing_at r) r.count)

-- while the node waits, what is still missing, or `may enter`
abbrev pub permission_of : RequesterState → List Known
permission_of r = if is_waiting r.phase then missing_of r else []

-- the arbiters that have failed the request or got their grant back, and have not granted it since;
-- those whose inquiries are remembered, each with the grant that it has asked back
abbrev pub answers_of : RequesterState → List Known
answers_of r =
    listed (codes "failed") (below (node_at r.failed) r.count)
    ++ listed (codes "inquired") (below (number_at r.remembered) r.count)

-- its clock; its request; the arbiters whose grants it holds, each with the grant; what it waits
-- for; the replies of its arbiters
abbrev pub requester_known : RequesterState → List Known
requester_known r =
    one (codes "clock") (item.Number r.highest) ++ request_of r
    ++ listed (codes "grants") (below (number_at r.held) r.count) ++ permission_of r
    ++ answers_of r

-- the request that the arbiter is locked for, or `arbiter free`
abbrev pub lock_of : Option Lock → List Known
lock_of None = word (codes "arbiter free")
lock_of (Some lock) = one (codes "arbiter for") (item.Stamp lock.stamp)

-- the number of the grant of the lock, if there is a lock
abbrev pub grant_of : Option Lock → List Known
grant_of None = []
grant_of (Some lock) = one (codes "arbiter grant") (item.Number lock.grant)

-- the lock with its grant; the requests that wait for a grant; the highest section number received
abbrev pub arbiter_known : ArbiterState → List Known
arbiter_known a =
    lock_of a.lock ++ grant_of a.lock
    ++ listed (codes "arbiter queue") (below (stamp_at a.waiting) a.count)
    ++ one (codes "arbiter last") (item.Number a.last)

abbrev pub known_of : Node → List Known
known_of s = requester_known s.requester ++ arbiter_known s.arbiter
