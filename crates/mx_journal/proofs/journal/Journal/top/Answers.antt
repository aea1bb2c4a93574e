use Rattle.std.proofs.Common.{◌≤◌, subst, arith}
use Rattle.mx_journal.specs.Settled.{JournalState, covered}
use Rattle.mx_journal.proofs.Settled.{covered_top}
use Rattle.mx_journal.proofs.journal.Journal.top.Goals as goal

pub returns-clause-bound : goal.returns-clause-bound
returns-clause-bound c =
    subst (λ (j : JournalState). covered j ≤ c.max.result) c.self.view_is
    (omega (arith, covered_top c.self.inside.base.upto c.self.inside.records c.self.invariant, c.max.ensures, c.upto.ensures.value, c.top.ensures))
