use Rattle.std.proofs.Common.{suc, ◌≡◌, length}
use Rattle.mx_journal.specs.Bases.{AreCellsOf, with_sections}
use Rattle.mx_journal.specs.Records.{above, below}
use Rattle.mx_journal.proofs.settlement.settled_base.Given as goal

abbrev pub invariant-loop-entry : goal.invariant-loop-entry
invariant-loop-entry l = record {
  same : with_sections (below (suc l.upto) (above l.last l.records)) l.cells ≡ with_sections (below (suc l.upto) l.records) l.base.cells;
  cells : AreCellsOf l.upto l.cells;
}

abbrev pub decreases-loop-entry : goal.decreases-loop-entry
decreases-loop-entry l = length (above l.last l.records)
