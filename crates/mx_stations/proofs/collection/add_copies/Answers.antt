use Rattle.std.proofs.Common.{ap, ◌∙◌, ◌++◌}
use Rattle.std.proofs.lemmas.List.{take_all}
use Rattle.mx_stations.proofs.collection.add_copies.Goals as goal

pub returns : goal.returns
returns c = c.loop-receipt.invariant ∙ ap (λ l. c.args.all.now.items ++ l) (take_all c.loop-receipt.receipt-index c.args.receipts.now c.loop-receipt-test.false)
