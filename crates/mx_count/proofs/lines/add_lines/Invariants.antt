use Rattle.std.proofs.Common.{◌≡◌, ◌++◌, string_bytes, take}
use Rattle.std.specs.List.{flat_map}
use Rattle.mx_count.specs.Lines.{row_line}
use Rattle.mx_count.specs.Rows.{rows_of}
use Rattle.mx_count.proofs.lines.add_lines.Given as goal

abbrev pub invariant-loop-row : goal.invariant-loop-row
invariant-loop-row l = string_bytes l.text ≡ string_bytes l.fn.text ++ flat_map (row_line l.plan) (rows_of (take l.row-index l.rows))
