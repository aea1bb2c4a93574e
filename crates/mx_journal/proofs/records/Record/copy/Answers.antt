use Rattle.mx_journal.proofs.records.Record.copy.Goals as goal

pub returns : goal.returns
returns c = rw c.copy_of_writes.ensures
