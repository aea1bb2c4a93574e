use Rattle.std.proofs.Common.{◌∙◌}
use Rattle.mx_journal.proofs.Found.{top_flat}
use Rattle.mx_journal.proofs.places.top_in.Goals as goal

pub returns-in-Some : goal.returns-in-Some
returns-in-Some c =
    let w = c.in-Some.ensures in
    c.last-in-Some.ensures ∙ top_flat c.args.runs.now c.in-Some.run'.now c.requires w.value
