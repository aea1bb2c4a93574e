use Rattle.mx_journal.proofs.receipts.Receipt.to_record.Goals as goal

pub returns : goal.returns
returns c = cc
