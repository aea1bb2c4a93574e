use Rattle.std.proofs.Common.{◌∙◌, ◌++◌, ap}
use Rattle.mx_plan.specs.Text.{Text}
use Rattle.mx_picture.specs.Marks.{why_of}
use Rattle.mx_picture.proofs.marked.why_text.Goals as goal

pub returns : goal.returns
returns c =
    let word = c.args.word.now in
    let place = c.args.place in
    let reason = c.args.reason.now in
    c.in_ok-add_why.ensures ∙ ap (λ (s : Text). s ++ why_of c.word.result.now word place reason) c.new-text.ensures.bytes
    ∙ ap (λ (clause : Text). why_of clause word place reason) c.word.ensures
