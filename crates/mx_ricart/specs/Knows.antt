-- What a node knows, as the facts that it shows.
use Rattle.std.specs.Prelude.{ℕ, List, [], ◌++◌, Option, Some, None, codes, if◌then◌else◌}
use Rattle.mx_nodelaws.specs.Phases.{is_busy, is_waiting}
use Rattle.mx_knowledge.specs.declared.fact.Item.{Item}
use Rattle.mx_knowledge.specs.declared.fact.Item.TheVariants as item
use Rattle.mx_knowledge.specs.Facts.{Known, listed, one, word}
use Rattle.mx_knowledge.specs.Tables.{below, stamp_at}
use Rattle.mx_ricart.specs.Node.{Node}
use Rattle.mx_ricart.specs.Step.{has_all_replies, is_replied}

-- the stamp of its request, while the node waits or is inside
abbrev pub request_of : Node → List Known
request_of s = if is_busy s.phase then one (codes "request") (item.Stamp s.ours) else []

-- node j, if its reply to the current request has not counted
abbrev pub missing_at : Node → ℕ → Option Item
missing_at s j = if is_replied s j then None else Some (item.Node j)

-- the nodes whose replies are missing; if none is, `may enter`
abbrev pub missing_of : Node → List Known
missing_of s =
    if has_all_replies s then word (codes "may enter")
    else listed (codes "missing") (below (missing_at s) s.count)

-- while the node waits, what is still missing, or `may enter`
abbrev pub permission_of : Node → List Known
permission_of s = if is_waiting s.phase then missing_of s else []

-- its clock; its request; what it still waits for; the requests whose replies are deferred
abbrev pub known_of : Node → List Known
known_of s =
    one (codes "clock") (item.Number s.highest) ++ request_of s ++ permission_of s
    ++ listed (codes "holds back") (below (stamp_at s.deferred) s.count)
