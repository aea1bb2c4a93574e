use Rattle.mx_explorer.proofs.Ledgers.{first_ledger}
use Rattle.mx_explorer.proofs.ledger.Ledger.new.Goals as goal

pub returns : goal.returns
returns c = first_ledger
