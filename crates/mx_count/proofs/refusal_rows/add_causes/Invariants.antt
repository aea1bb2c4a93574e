use Rattle.std.proofs.Common.{◌≡◌, ◌++◌, map, take}
use Rattle.mx_count.specs.Counted.{cause_row}
use Rattle.mx_count.specs.Rows.{rows_of}
use Rattle.mx_count.proofs.refusal_rows.add_causes.Given as goal

abbrev pub invariant-loop-cause : goal.invariant-loop-cause
invariant-loop-cause l = rows_of l.rows.items ≡ rows_of l.fn.rows.items ++ map (cause_row l.trace) (take l.cause-index l.causes)
