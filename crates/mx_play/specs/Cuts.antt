-- The lines that a session prints for cut links.
use Rattle.std.specs.Prelude.{ℕ, ◌&&◌, ◌||◌, ◌==◌, Bool, true, [], ◌++◌, Option, Some, None, codes, length, nat_le, if◌then◌else◌}
use Rattle.std.specs.List.{range_with_len}
use Rattle.mx_plan.specs.Text.{Text, line_feed}
use Rattle.mx_plan.specs.Fields.{Fields}
use Rattle.mx_format.specs.EventTexts.{name_of}
use Rattle.mx_format.specs.Lines.{each_text}
use Rattle.mx_lines.specs.declared.orders.LinkChange.{LinkChange}
use Rattle.mx_lines.specs.declared.orders.LinkChange.TheVariants.{Cut, CutAll, HealLink, HealNode, Heal}
use Rattle.mx_scripts.specs.Links.{LinkState, is_cut}

-- the node is the one that was named; any node, if none was
abbrev pub is_to : Option ℕ → ℕ → Bool
is_to None addressee = true
is_to (Some node) addressee = addressee == node

abbrev pub cut_line : Fields → ℕ → ℕ → Text
cut_line p one other =
    codes "cut " ++ name_of p one ++ codes " " ++ name_of p other ++ line_feed

-- a change of links, as the line that asks for it
abbrev pub change_line : Fields → LinkChange → Text
change_line p (Cut one other) = cut_line p one other
change_line p (CutAll node) = codes "cut " ++ name_of p node ++ line_feed
change_line p (HealLink one other) =
    codes "heal " ++ name_of p one ++ codes " " ++ name_of p other ++ line_feed
change_line p (HealNode node) = codes "heal " ++ name_of p node ++ line_feed
change_line p Heal = codes "heal" ++ line_feed

-- the link between a node and itself or a later node is cut, and the node that was named, if one
-- was, is at one of its ends
abbrev pub is_shown : Option ℕ → LinkState → ℕ → ℕ → Bool
is_shown to l one other =
    nat_le one other && (is_cut l one other && (is_to to one || is_to to other))

module _ (p : Fields) (to : Option ℕ) (l : LinkState) where
  abbrev pub cut_text : ℕ → ℕ → Text
  cut_text i j = if is_shown to l i j then cut_line p i j else []

  -- the lines of the links of node i that are shown, and (below) of all nodes
  abbrev pub cut_lines_of : ℕ → Text
  cut_lines_of i = each_text (cut_text i) (range_with_len 0 (length p.nodes))

  abbrev pub cut_lines : Text
  cut_lines = each_text cut_lines_of (range_with_len 0 (length p.nodes))
