use Rattle.std.proofs.Common.{◌∙◌, List, ap, refl, string_bytes, subst, sym}
use Rattle.mx_trace.specs.declared.outcome.Entry.{Entry}
use Rattle.mx_judge.specs.Judged.{IsVerdictOf}
use Rattle.mx_judge.specs.Listed.{listed}
use Rattle.mx_judge.specs.Reasons.{reason_for}
use Rattle.mx_picture.proofs.TraceLemmas.{marked_is}
use Rattle.mx_picture.proofs.marked.marked_by.Goals as goal

pub returns-in-Sound : goal.returns-in-Sound
returns-in-Sound c = λ is. rw c.in-Sound.is refl

pub returns : goal.returns
returns c = λ is.
    let p = c.args.plan.now in
    let verdict = c.args.verdict in
    let same = c.as_slice.ensures.value in
    let given = c.in_ok-reason.ensures (subst (λ (l : List Entry). IsVerdictOf l verdict) (sym same) is) in
    let reason = c.as_str.ensures.value ∙ given ∙ ap (λ (l : List Entry). reason_for p l verdict) same in
    marked_is p c.args.word.now (listed c.args.trace.now) c.in-Broken.index c.in-Broken.clause verdict (string_bytes c.in_ok-why-in-Broken.why) c.place_of.result c.as_str.result.now
    c.in-Broken.is c.in_ok-why-in-Broken.ensures c.place_of.ensures reason
