-- The printed faults.
use Rattle.std.specs.Prelude.{◌++◌, codes, decimal}
use Rattle.mx_quorums.specs.declared.fault.QuorumFault.{QuorumFault}
use Rattle.mx_quorums.specs.declared.fault.QuorumFault.TheVariants as quorum
use Rattle.mx_trees.specs.declared.fault.TreeFault.{TreeFault}
use Rattle.mx_trees.specs.declared.fault.TreeFault.TheVariants as tree
use Rattle.mx_plan.specs.Text.{Text}
use Rattle.mx_plan.specs.declared.place.Place.{Place}
use Rattle.mx_plan.specs.declared.place.Place.TheVariants as place
use Rattle.mx_plan.specs.declared.faults.PlanFault.{PlanFault}
use Rattle.mx_plan.specs.declared.faults.PlanFault.TheVariants.{NotJson, NotPlan, DoubleName, UnknownName, BadShape, Memory}
use Rattle.mx_plan.specs.declared.faults.ShapeFault.{ShapeFault}
use Rattle.mx_plan.specs.declared.faults.ShapeFault.TheVariants.{Quorum, Tree}

abbrev pub place_text : Place → Text
place_text place.Plan = codes "plan"
place_text place.Algorithm = codes "algorithm"
place_text place.Nodes = codes "nodes"
place_text place.Registers = codes "registers"
place_text place.Sections = codes "sections"
place_text place.Origin = codes "origin"
place_text place.Quorums = codes "quorums"
place_text place.Edges = codes "edges"
place_text place.Holder = codes "holder"
place_text place.Events = codes "events"
place_text (place.Event k) = codes "event " ++ decimal k

-- the word for a place; for an event, this is without its number
abbrev pub place_word : Place → Text
place_word (place.Event k) = codes "event"
place_word p = place_text p

abbrev pub quorum_text : QuorumFault → Text
quorum_text quorum.NoNodes = codes "no nodes"
quorum_text quorum.TooMany = codes "too many"
quorum_text (quorum.EmptySet i) = codes "empty set " ++ decimal i
quorum_text (quorum.Stranger i j) = codes "stranger " ++ decimal i ++ codes " " ++ decimal j
quorum_text (quorum.NotOwnMember i) = codes "not own member " ++ decimal i
quorum_text (quorum.Apart i j) = codes "apart " ++ decimal i ++ codes " " ++ decimal j
quorum_text (quorum.NoPlane n) = codes "no plane " ++ decimal n

-- the words of a fault, without the numbers after them
abbrev pub quorum_words : QuorumFault → Text
quorum_words quorum.NoNodes = codes "no nodes"
quorum_words quorum.TooMany = codes "too many"
quorum_words (quorum.EmptySet i) = codes "empty set"
quorum_words (quorum.Stranger i j) = codes "stranger"
quorum_words (quorum.NotOwnMember i) = codes "not own member"
quorum_words (quorum.Apart i j) = codes "apart"
quorum_words (quorum.NoPlane n) = codes "no plane"

abbrev pub tree_text : TreeFault → Text
tree_text tree.NoNodes = codes "no nodes"
tree_text tree.TooMany = codes "too many"
tree_text (tree.BadEdge k) = codes "bad edge " ++ decimal k
tree_text tree.WrongCount = codes "wrong count"
tree_text (tree.NotJoined i) = codes "not joined " ++ decimal i
tree_text tree.BadHolder = codes "bad holder"

abbrev pub shape_text : ShapeFault → Text
shape_text (Quorum fault) = quorum_text fault
shape_text (Tree fault) = tree_text fault

abbrev pub fault_text : PlanFault → Text
fault_text NotJson = codes "not json"
fault_text (NotPlan place) = codes "bad plan: " ++ place_text place
fault_text (DoubleName place) = codes "double name: " ++ place_text place
fault_text (UnknownName place) = codes "unknown name: " ++ place_text place
fault_text (BadShape shape) = codes "bad shape: " ++ shape_text shape
fault_text Memory = codes "out of memory"
