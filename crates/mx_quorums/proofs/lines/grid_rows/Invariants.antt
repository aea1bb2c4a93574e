use Rattle.mx_quorums.specs.Shapes.{IsInLine}
use Rattle.mx_quorums.proofs.RowLemmas.{AreRowsBelow}
use Rattle.mx_quorums.proofs.lines.grid_rows.Given as goal

-- the rows so far mark the lines of their nodes
abbrev pub invariant-loop-i : goal.invariant-loop-i
invariant-loop-i l = AreRowsBelow (IsInLine l.nodes l.cols) l.i l.rows
