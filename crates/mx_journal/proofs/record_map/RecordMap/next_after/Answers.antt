use Rattle.std.proofs.Common.{subst}
use Rattle.mx_journal.specs.Records.{Ascending}
use Rattle.mx_journal.proofs.Flat.{ascending_flat}
use Rattle.mx_journal.proofs.record_map.RecordMap.next_after.Goals as goal

pub returns-clause-ordered : goal.returns-clause-ordered
returns-clause-ordered c = subst (λ l. Ascending 1 l) c.self.view_is (ascending_flat 1 c.self.inside.runs.items c.self.invariant)

pub returns-clause-value : goal.returns-clause-value
returns-clause-value c = rw (← c.self.view_is, ← c.deref.ensures.value) c.next_in.ensures
