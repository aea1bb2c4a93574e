-- Rows as objects of JSON: one for the cluster, and one for each node.
use Rattle.std.specs.Prelude.{ℕ, ◌++◌, List, codes, decimal}
use Rattle.mx_plan.specs.Text.{Text}
use Rattle.mx_plan.specs.Fields.{Fields}
use Rattle.mx_format.specs.EventTexts.{name_of}
use Rattle.std.specs.List.{flat_map}
use Rattle.mx_format.specs.Members.{number_member, number_start}
use Rattle.mx_count.specs.Rows.{Row, mean_text}
use Rattle.mx_count.specs.declared.rows.Level.{Level}
use Rattle.mx_count.specs.declared.rows.Level.TheVariants.{First, Node}
use Rattle.mx_count.specs.declared.rows.Mean.{Mean as MeanValue}
use Rattle.mx_count.specs.declared.rows.Value.{Value}
use Rattle.mx_count.specs.declared.rows.Value.TheVariants.{Number, Mean, Spread, Absent}

-- what stands before the member of a row
abbrev pub level_json : Fields → Level → Text
level_json p First = codes "{"
level_json p (Node i) = codes "}\n{\"node\":\"" ++ name_of p i ++ codes "\","
level_json p _ = codes ","

abbrev pub spread_json : ℕ → MeanValue → ℕ → Text
spread_json least mean greatest =
    number_start (codes "least") least ++ (codes ",\"mean\":" ++ mean_text mean)
    ++ number_member (codes "greatest") greatest ++ codes "}"

abbrev pub value_json : Value → Text
value_json (Number n) = decimal n
value_json (Mean mean) = mean_text mean
value_json (Spread least mean greatest) = spread_json least mean greatest
value_json Absent = codes "null"

abbrev pub row_json : Fields → Row → Text
row_json p row = level_json p row.0 ++ codes "\"" ++ row.1 ++ codes "\":" ++ value_json row.2

abbrev pub rows_objects : Fields → List Row → Text
rows_objects p rows = flat_map (row_json p) rows ++ codes "}\n"
