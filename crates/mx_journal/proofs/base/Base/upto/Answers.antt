use Rattle.std.proofs.Common.{subst}
use Rattle.mx_journal.specs.Bases.{AreCellsOf, BaseState}
use Rattle.mx_journal.proofs.base.Base.upto.Goals as goal

pub returns-clause-cells : goal.returns-clause-cells
returns-clause-cells c = subst (λ (b : BaseState). AreCellsOf b.upto b.cells) c.self.view_is c.self.invariant
