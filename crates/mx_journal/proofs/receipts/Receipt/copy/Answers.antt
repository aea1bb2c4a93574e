use Rattle.mx_journal.proofs.receipts.Receipt.copy.Goals as goal

pub returns : goal.returns
returns c = rw (c.copy_of_reads.ensures, c.copy_of_writes.ensures)
