-- Objects of JSON for what a script does beside events.
use Rattle.std.specs.Prelude.{ℕ, ◌≡◌, ◌++◌, codes, decimal}
use Rattle.mx_plan.specs.Text.{Text}
use Rattle.mx_plan.specs.Fields.{Fields}
use Rattle.mx_format.specs.EventTexts.{name_of}
use Rattle.mx_lines.specs.Texts.{fault_text}
use Rattle.mx_lines.specs.declared.orders.LinkChange.{LinkChange}
use Rattle.mx_lines.specs.declared.orders.LinkChange.TheVariants.{Cut, CutAll, HealLink, HealNode, Heal}
use Rattle.mx_scripts.specs.declared.line_failure.RefusedLine.{RefusedLine}

-- the line that did what follows
abbrev pub line_json : ℕ → Text
line_json number = codes "{\"line\":" ++ decimal number ++ codes "}\n"

abbrev pub lost_json : ℕ → Text
lost_json k = codes "{\"lost\":" ++ decimal k ++ codes "}\n"

module _ (p : Fields) where
  abbrev pub link_json : Text → ℕ → ℕ → Text
  link_json word one other =
      codes "{\"" ++ word ++ codes "\":[\"" ++ name_of p one ++ codes "\",\"" ++ name_of p other
      ++ codes "\"]}\n"

  abbrev pub node_json : Text → ℕ → Text
  node_json word node = codes "{\"" ++ word ++ codes "\":[\"" ++ name_of p node ++ codes "\"]}\n"

  -- a change of links: both ends of the one link, the node whose links all change, or nothing for
  -- all links
  abbrev pub change_json : LinkChange → Text
  change_json (Cut one other) = link_json (codes "cut") one other
  change_json (CutAll node) = node_json (codes "cut") node
  change_json (HealLink one other) = link_json (codes "heal") one other
  change_json (HealNode node) = node_json (codes "heal") node
  change_json Heal = codes "{\"heal\":[]}\n"

-- the object of a line that is refused was appended, with some message
abbrev pub IsFaultJson : RefusedLine → Text → Text → Type 0
IsFaultJson line before after =
    (message : Text)
    × (after ≡ before ++ (codes "{\"line\":" ++ decimal line.number ++ codes ",\"fault\":\""
    ++ fault_text line.fault ++ codes "\",\"message\":" ++ message ++ codes "}\n"))
