-- What a plan says of its cluster.
use Rattle.std.specs.Prelude.{ℕ, ◌&&◌, Bool, true, false, [], ◌++◌, codes, decimal, length, nat_eq, nat_le, if◌then◌else◌}
use Rattle.std.specs.List.{position_or_len}
use Rattle.mx_stamps.specs.Lists.{each_below}
use Rattle.mx_quorums.specs.Family.{Family, has_of}
use Rattle.mx_trees.specs.Tree.{Rooted, toward_of}
use Rattle.mx_plan.specs.Text.{Text, line_feed}
use Rattle.mx_plan.specs.Fields.{Fields}
use Rattle.mx_plan.specs.declared.shape.Shape.{Shape}
use Rattle.mx_plan.specs.declared.shape.Shape.TheVariants.{Ricart, Maekawa, Raymond}
use Rattle.mx_format.specs.declared.plan_facts.PlanFact.{PlanFact}
use Rattle.mx_format.specs.declared.plan_facts.PlanFact.TheVariants.{Sizes, Meeting, Toward, Asks}
use Rattle.mx_format.specs.EventTexts.{name_of}
use Rattle.mx_format.specs.Lines.{each_node}

abbrev pub algorithm_text : Shape → Text
algorithm_text (Ricart count) = codes "ricart"
algorithm_text (Maekawa family) = codes "maekawa"
algorithm_text (Raymond tree) = codes "raymond"

-- ---- facts, in lines and as JSON

-- how many registers a plan has, its greatest section number, and its origin
unfoldable pub bounds_text : Bool → Fields → Text
bounds_text true p =
    codes ",\"registers\":" ++ decimal (length p.registers) ++ codes ",\"sections\":"
    ++ decimal p.sections ++ codes ",\"origin\":" ++ decimal p.origin
bounds_text false p =
    codes ", registers " ++ decimal (length p.registers) ++ codes ", sections "
    ++ decimal p.sections ++ codes ", origin " ++ decimal p.origin

abbrev pub plan_fact_line : Fields → PlanFact → Text
plan_fact_line p Sizes =
    codes "plan " ++ algorithm_text p.shape ++ codes ", nodes " ++ decimal (length p.nodes)
    ++ bounds_text false p ++ line_feed
plan_fact_line p (Meeting i j node) =
    codes "meet " ++ name_of p i ++ codes " " ++ name_of p j ++ codes ": " ++ name_of p node
    ++ line_feed
plan_fact_line p (Toward i next) =
    codes "toward " ++ name_of p i ++ codes ": " ++ name_of p next ++ line_feed
plan_fact_line p (Asks i j) = codes " " ++ name_of p j

abbrev pub plan_fact_json : Fields → PlanFact → Text
plan_fact_json p Sizes =
    codes "{\"plan\":\"" ++ algorithm_text p.shape ++ codes "\",\"nodes\":"
    ++ decimal (length p.nodes) ++ bounds_text true p ++ codes "}\n"
plan_fact_json p (Meeting i j node) =
    codes "{\"meet\":[\"" ++ name_of p i ++ codes "\",\"" ++ name_of p j
    ++ codes "\"],\"arbiter\":\"" ++ name_of p node ++ codes "\"}\n"
plan_fact_json p (Toward i next) =
    codes "{\"node\":\"" ++ name_of p i ++ codes "\",\"toward\":\"" ++ name_of p next
    ++ codes "\"}\n"
plan_fact_json p (Asks i j) =
    codes "{\"node\":\"" ++ name_of p i ++ codes "\",\"asks\":\"" ++ name_of p j ++ codes "\"}\n"

abbrev pub plan_fact_text : Bool → Fields → PlanFact → Text
plan_fact_text is_json p fact = if is_json then plan_fact_json p fact else plan_fact_line p fact

-- ---- the facts of each algorithm

-- the first node that is an arbiter of both nodes
abbrev pub meeting_of : Family → ℕ → ℕ → ℕ
meeting_of f i j = position_or_len (λ a. has_of f i a && has_of f j a) (each_below (λ a. a) f.count)

module _ (is_json : Bool) (p : Fields) where
  -- where node i meets node j; nothing, if j is not after i
  abbrev pub meeting_text : Family → ℕ → ℕ → Text
  meeting_text f i j =
      if nat_le j i then [] else plan_fact_text is_json p (Meeting i j (meeting_of f i j))

  -- where node i meets each later node
  abbrev pub meetings_text : Family → ℕ → Text
  meetings_text f i = each_node (meeting_text f i) p

  -- the way of a node to the holder; nothing for the holder
  abbrev pub toward_text : Rooted → ℕ → Text
  toward_text t i =
      if nat_eq i t.holder then [] else plan_fact_text is_json p (Toward i (toward_of t i))

  -- what the shape says of node i
  abbrev pub shape_text : Shape → ℕ → Text
  shape_text (Ricart count) i = []
  shape_text (Maekawa family) i = meetings_text family i
  shape_text (Raymond tree) i = toward_text tree i

  abbrev pub plan_text_by : Text
  plan_text_by = plan_fact_text is_json p Sizes ++ each_node (shape_text p.shape) p
