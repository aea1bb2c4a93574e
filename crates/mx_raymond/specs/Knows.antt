-- What a node knows, as the facts that it shows.
use Rattle.std.specs.Prelude.{List, [], ◌++◌, Option, Some, None, codes, if◌then◌else◌}
use Rattle.mx_nodelaws.specs.Phases.{is_waiting}
use Rattle.mx_knowledge.specs.declared.fact.Item.TheVariants as item
use Rattle.mx_knowledge.specs.Facts.{Known, listed, one, word}
use Rattle.mx_raymond.specs.declared.unacked.Unacked.{Unacked}
use Rattle.mx_raymond.specs.Queue.{queue_items}
use Rattle.mx_raymond.specs.Node.{Node}
use Rattle.mx_raymond.specs.Step.{has_permission, is_holder}

-- whether the node has the privilege, and if not, the neighbour in whose direction the privilege is
abbrev pub place_of : Node → List Known
place_of s =
    if is_holder s then word (codes "has the privilege")
    else one (codes "privilege towards") (item.Node s.holder)

abbrev pub asked_of : Node → List Known
asked_of s = if s.has_asked then word (codes "has asked") else []

-- the neighbour to which the node sent a privilege that may not have arrived, with the hop
abbrev pub unacked_of : Option Unacked → List Known
unacked_of None = []
unacked_of (Some u) = one (codes "unacknowledged") (item.Numbered u.to u.hop)

abbrev pub granted_of : Node → List Known
granted_of s = if has_permission s then word (codes "may enter") else []

-- `may enter`, if the node waits and has the permission
abbrev pub permission_of : Node → List Known
permission_of s = if is_waiting s.phase then granted_of s else []

-- where the privilege is; the queue of the node; whether it has asked for the privilege; the hop;
-- the privilege that is not acknowledged; whether the node may enter
abbrev pub known_of : Node → List Known
known_of s =
    place_of s ++ listed (codes "queue") (queue_items s.queue) ++ asked_of s
    ++ one (codes "hop") (item.Number s.hop) ++ unacked_of s.unacked ++ permission_of s
