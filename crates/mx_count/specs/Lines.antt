-- Rows as lines.
use Rattle.std.specs.Prelude.{◌++◌, List, [], codes, decimal}
use Rattle.mx_plan.specs.Text.{Text, line_feed}
use Rattle.mx_plan.specs.Fields.{Fields}
use Rattle.mx_format.specs.EventTexts.{name_of}
use Rattle.std.specs.List.{flat_map}
use Rattle.mx_count.specs.Rows.{Row, mean_text}
use Rattle.mx_count.specs.declared.rows.Level.{Level}
use Rattle.mx_count.specs.declared.rows.Level.TheVariants.{First, Total, Part, Kind, Node, Next}
use Rattle.mx_count.specs.declared.rows.Value.{Value}
use Rattle.mx_count.specs.declared.rows.Value.TheVariants.{Number, Mean, Spread, Absent}

-- what stands before the name of a row
abbrev pub level_line : Fields → Level → Text
level_line p First = []
level_line p Total = codes "\n"
level_line p Part = codes "\n  "
level_line p Kind = codes "\n    "
level_line p (Node i) = codes "\n" ++ name_of p i ++ codes ": "
level_line p Next = codes ", "

abbrev pub value_line : Value → Text
value_line (Number n) = decimal n
value_line (Mean mean) = mean_text mean
value_line (Spread least mean greatest) =
    codes "least " ++ decimal least ++ codes ", mean " ++ mean_text mean ++ codes ", greatest "
    ++ decimal greatest
value_line Absent = codes "none"

abbrev pub row_line : Fields → Row → Text
row_line p row = level_line p row.0 ++ row.1 ++ codes " " ++ value_line row.2

abbrev pub rows_lines : Fields → List Row → Text
rows_lines p rows = flat_map (row_line p) rows ++ line_feed
