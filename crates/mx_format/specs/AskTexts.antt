-- Whom the nodes of a plan ask.
use Rattle.std.specs.Prelude.{ℕ, Bool, true, false, not, [], ◌++◌, codes, nat_eq, if◌then◌else◌}
use Rattle.mx_quorums.specs.Family.{has_of}
use Rattle.mx_trees.specs.Tree.{toward_of}
use Rattle.mx_plan.specs.Text.{Text, line_feed}
use Rattle.mx_plan.specs.Fields.{Fields}
use Rattle.mx_plan.specs.declared.shape.Shape.{Shape}
use Rattle.mx_plan.specs.declared.shape.Shape.TheVariants.{Ricart, Maekawa, Raymond}
use Rattle.mx_format.specs.declared.plan_facts.PlanFact.TheVariants.{Asks}
use Rattle.mx_format.specs.EventTexts.{name_of}
use Rattle.mx_format.specs.Lines.{each_node}
use Rattle.mx_format.specs.PlanTexts.{plan_fact_text, plan_text_by}

-- node i asks node j. By Ricart and Agrawala's algorithm, a node asks each other node; by
-- Maekawa's, its arbiters; by Raymond's, at the start, its neighbour on the way to the holder. The
-- holder asks nobody
abbrev pub asks_of : Shape → ℕ → ℕ → Bool
asks_of (Ricart count) i j = not (nat_eq i j)
asks_of (Maekawa family) i j = has_of family i j
asks_of (Raymond tree) i j = if nat_eq i tree.holder then false else nat_eq (toward_of tree i) j

-- the name of node j, or an object of JSON of both nodes, if node i asks node j
abbrev pub asked_text : Bool → Fields → ℕ → ℕ → Text
asked_text is_json p i j =
    if asks_of p.shape i j then plan_fact_text is_json p (Asks i j) else []

-- the same for all nodes that node i asks, in the order of the plan
abbrev pub asked_names : Bool → Fields → ℕ → Text
asked_names is_json p i = each_node (asked_text is_json p i) p

-- the line of node i, or an object of JSON for each node that it asks
abbrev pub asks_line : Bool → Fields → ℕ → Text
asks_line true p i = asked_names true p i
asks_line false p i =
    codes "asks " ++ name_of p i ++ codes ":" ++ asked_names false p i ++ line_feed

-- the lines or objects of all nodes, in the order of the plan
abbrev pub asks_lines : Bool → Fields → Text
asks_lines is_json p = each_node (asks_line is_json p) p

-- what a plan says, and whom each of its nodes asks
abbrev pub plan_asks_text_by : Bool → Fields → Text
plan_asks_text_by is_json p = plan_text_by is_json p ++ asks_lines is_json p
