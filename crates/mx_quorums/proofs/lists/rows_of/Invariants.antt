use Rattle.mx_quorums.specs.Lists.{lists_of, IsListed}
use Rattle.mx_quorums.proofs.RowLemmas.{AreRowsBelow}
use Rattle.mx_quorums.proofs.lists.rows_of.Given as goal

-- the rows so far mark what is listed
abbrev pub invariant-loop-i : goal.invariant-loop-i
invariant-loop-i l = AreRowsBelow (IsListed (lists_of l.sets)) l.i l.rows
