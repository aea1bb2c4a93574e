use Rattle.std.proofs.Common.{take}
use Rattle.mx_journal.specs.Bases.{AreCellsOf}
use Rattle.mx_journal.proofs.cells.are_cells_of.Given as goal

abbrev pub invariant-loop-cell : goal.invariant-loop-cell
invariant-loop-cell l = AreCellsOf l.upto (take l.cell-index l.cells)
