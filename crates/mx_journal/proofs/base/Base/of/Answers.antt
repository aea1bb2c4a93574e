use Rattle.mx_journal.proofs.base.Base.of.Goals as goal

pub invariant_of-result : goal.invariant_of-result
invariant_of-result c = c.are_cells_of.ensures.0 c.if-are_cells_of.true
