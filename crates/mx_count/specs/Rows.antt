-- Rows of counts, and their values.
use Rattle.std.specs.Prelude.{ℕ, ◌*◌, ◌/◌, ◌%◌, ◌++◌, ◌+◌, List, [], ◌∷◌, codes, decimal, length, map, max, min, ◌==◌, if◌then◌else◌}
use Rattle.std.specs.List.{fold}
use Rattle.mx_plan.specs.Text.{Text}
use Rattle.mx_count.specs.declared.rows.Level.{Level}
use Rattle.mx_count.specs.declared.rows.Mean.{Mean}
use Rattle.mx_count.specs.declared.rows.Row.{Row as CodeRow}
use Rattle.mx_count.specs.declared.rows.Value.{Value}
use Rattle.mx_count.specs.declared.rows.Value.TheVariants as value

-- where a row stands, its name, and its value
abbrev pub Row : Type 0
Row = Level × Text × Value

abbrev pub row_of : CodeRow → Row
row_of row = (row.level, row.name.now, row.value)

abbrev pub rows_of : List CodeRow → List Row
rows_of = map row_of

-- a sum divided by a number that is not 0, with one decimal, rounded down
abbrev pub mean_of : ℕ → ℕ → Mean
mean_of sum number =
    record { whole = sum / number; tenths = (sum % number) * 10 / number }

abbrev pub mean_text : Mean → Text
mean_text mean = decimal mean.whole ++ codes "." ++ decimal mean.tenths

-- the letters for each section, if a section was entered
abbrev pub share_of : ℕ → ℕ → Value
share_of letters sections =
    if sections == 0 then value.Absent else value.Mean (mean_of letters sections)

-- the least, the mean and the greatest of some numbers, if there are any
abbrev pub spread_of : List ℕ → Value
spread_of [] = value.Absent
spread_of (x ∷ xs) =
    value.Spread (fold min x xs) (mean_of (fold (λ a b. a + b) x xs) (length xs + 1))
    (fold max x xs)
