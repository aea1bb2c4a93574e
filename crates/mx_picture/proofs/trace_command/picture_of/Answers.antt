use Rattle.std.proofs.Common.{◌∙◌, IfOk, string_bytes, subst}
use Rattle.mx_plan.specs.Text.{Text}
use Rattle.mx_picture.specs.Drawn.{IsTracePicture}
use Rattle.mx_picture.proofs.trace_command.picture_of.Goals as goal

pub returns : goal.returns
returns c = λ is.
    subst (λ (j : Text). IfOk c.page_of.result (λ page. IsTracePicture c.args.plan.now j (string_bytes page))) (c.as_str.ensures.value ∙ c.in_ok-judgement.ensures is) c.page_of.ensures
