use Rattle.std.proofs.Common.{Err, ap}
use Rattle.mx_stations.proofs.Gathers.{same_fault}
use Rattle.mx_stations.proofs.collection.put_together.Goals as goal

pub returns-in_err-journal-clause-conflict : goal.returns-in_err-journal-clause-conflict
returns-in_err-journal-clause-conflict g c n is =
    c.in_err-journal.ensures.conflict n (ap (λ f. Err f) (same_fault c.in_err-journal.field-0.0 c.from_residual.result n c.from_residual.ensures.1 is))

pub returns-clause-ok : goal.returns-clause-ok
returns-clause-ok g c =
    let j = c.in_ok-journal.ensures in let r = c.in_ok-receipts.ensures in
    record { join = j.join; ordered = j.ordered; each = r.each; sorted = r.sorted }
