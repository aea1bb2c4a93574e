use Rattle.std.proofs.Common.{rules}
use Rattle.mx_journal.proofs.draft.Draft.close.Goals as goal

pub returns-clause-value : goal.returns-clause-value
returns-clause-value c = rw (c.copy_of_reads.ensures, c.copy_of_writes.ensures, ← c.self.view_is)

pub returns-clause-bound : goal.returns-clause-bound
returns-clause-bound c = rw (← c.self.view_is, ← c.copy_of_reads.ensures, ← c.copy_of_writes.ensures) (search rules)
