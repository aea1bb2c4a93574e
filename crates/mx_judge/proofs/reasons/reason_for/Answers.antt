use Rattle.std.proofs.Common.{◌∙◌, ◌++◌, ap, length, refl, take}
use Rattle.std.proofs.lemmas.Option.{slice_get_read}
use Rattle.mx_plan.specs.Text.{Text}
use Rattle.mx_judge.specs.Reasons.{reason_of}
use Rattle.mx_judge.proofs.JudgeLemmas.{reason_here}
use Rattle.mx_judge.proofs.reasons.reason_for.Goals as goal

pub returns : goal.returns
returns c = λ is.
    let p = c.args.plan.now in
    let entries = c.args.entries.now in
    let k = c.in-Broken.index in
    let clause = c.in-Broken.clause in
    let e = c.index-entries-at.result in
    let broken = (is.1 k clause).0 c.in-Broken.is in
    let here = slice_get_read entries (length entries) k e refl c.if-at-entries.false c.index-entries-at.is in
    rw c.in-Broken.is
    (c.in_ok-add_reason.ensures broken.0
    ∙ ap (λ (l : Text). l ++ reason_of p (take k entries) clause e.event e.outcome) c.new-text.ensures.bytes
    ∙ reason_here p entries k e clause here)
