-- The line of a run that stands still, also as JSON: which nodes wait, and for whom.
use Rattle.std.specs.Prelude.{ℕ, ◌||◌, List, [], ◌∷◌, ◌++◌, Bool, true, false, bytes_eq, codes, find, if◌then◌else◌}
use Rattle.std.specs.Option.{option_map_or}
use Rattle.mx_knowledge.specs.declared.fact.Item.{Item}
use Rattle.mx_knowledge.specs.declared.fact.Item.TheVariants.{Number, Node, Stamp, Numbered}
use Rattle.mx_knowledge.specs.Facts.{Known}
use Rattle.mx_plan.specs.Text.{Text, line_feed}
use Rattle.mx_plan.specs.Fields.{Fields}
use Rattle.mx_format.specs.declared.stuck.Relation.{Relation}
use Rattle.mx_format.specs.declared.stuck.Relation.TheVariants.{Awaited, Other}
use Rattle.mx_format.specs.EventArrays.{quoted}
use Rattle.mx_format.specs.EventTexts.{name_of}
use Rattle.mx_format.specs.Lines.{each_text, joined}
use Rattle.mx_format.specs.Members.{array_member, node_start}

-- ---- for whom a node waits

abbrev pub is_awaited : Relation → Bool
is_awaited Awaited = true
is_awaited Other = false

-- what the nodes in a fact of this name are to the node that knows it
abbrev pub relation_of : Text → Relation
relation_of name =
    if bytes_eq name (codes "missing") || bytes_eq name (codes "privilege towards") then Awaited
    else Other

-- a fact of this name lists the nodes for which a node waits
abbrev pub names_others : Text → Bool
names_others name = is_awaited (relation_of name)

-- the node in a value, as a list; none, if the value is of another kind
abbrev pub node_in : Item → List ℕ
node_in (Number n) = []
node_in (Node node) = node ∷ []
node_in (Stamp stamp) = []
node_in (Numbered node n) = []

abbrev pub nodes_in : List Item → List ℕ
nodes_in [] = []
nodes_in (item ∷ items) = node_in item ++ nodes_in items

-- the nodes for which a node waits that knows these facts; none, if no fact names them
abbrev pub others_in : List Known → List ℕ
others_in facts =
    option_map_or (λ fact. nodes_in fact.items) (find (λ fact. names_others fact.name) facts) []

-- a node that waits, and the nodes for which it waits
pub record WaiterState : Type 0 where
  pub node : ℕ
  pub others : List ℕ

-- node i, which knows these facts, as one that waits
abbrev pub waiter : ℕ → List Known → WaiterState
waiter i facts = record { node = i; others = others_in facts }

-- ---- its text

abbrev pub others_text : Fields → List ℕ → Text
others_text p [] = []
others_text p (i ∷ others) = codes " for" ++ each_text (λ j. codes " " ++ name_of p j) (i ∷ others)

abbrev pub waiter_text : Fields → WaiterState → Text
waiter_text p w = name_of p w.node ++ codes " waits" ++ others_text p w.others

abbrev pub waiter_json : Fields → WaiterState → Text
waiter_json p w =
    node_start p w.node ++ array_member (codes "for") (λ j. quoted (name_of p j)) w.others
    ++ codes "}"

-- ---- the line

abbrev pub stuck_line : Fields → List WaiterState → Text
stuck_line p waiters =
    codes "stuck: nothing under way" ++ each_text (λ w. codes "; " ++ waiter_text p w) waiters
    ++ line_feed

abbrev pub stuck_json : Fields → List WaiterState → Text
stuck_json p waiters = codes "{\"stuck\":[" ++ joined (codes ",") (waiter_json p) waiters ++ codes "]}\n"

abbrev pub stuck_by : Bool → Fields → List WaiterState → Text
stuck_by is_json p waiters = if is_json then stuck_json p waiters else stuck_line p waiters

-- the line of a run in which nothing is under way, and these nodes wait; nothing if none waits
abbrev pub stuck_text : Bool → Fields → List WaiterState → Text
stuck_text is_json p [] = []
stuck_text is_json p (w ∷ waiters) = stuck_by is_json p (w ∷ waiters)
