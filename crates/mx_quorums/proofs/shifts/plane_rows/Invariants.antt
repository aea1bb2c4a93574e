use Rattle.mx_quorums.specs.Shapes.{IsShifted}
use Rattle.mx_quorums.proofs.RowLemmas.{AreRowsBelow}
use Rattle.mx_quorums.proofs.shifts.plane_rows.Given as goal

-- the rows so far mark the shifts of their nodes
abbrev pub invariant-loop-i : goal.invariant-loop-i
invariant-loop-i l = AreRowsBelow (IsShifted l.n l.differences) l.i l.rows
