use Rattle.mx_journal.specs.Runs.{flatten}
use Rattle.mx_journal.proofs.Maps.{found_in}
use Rattle.mx_journal.proofs.places.is_there.Goals as goal

pub returns-in-Some-clause-there : goal.returns-in-Some-clause-there
returns-in-Some-clause-there c = λ _.
    let r = found_in c.args.number (flatten c.args.runs.now) c.in-Some.field-0.now c.in-Some.ensures in
    (c.in-Some.field-0.now, r.0, r.1)
