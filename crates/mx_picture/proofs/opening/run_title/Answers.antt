use Rattle.std.proofs.Common.{◌∙◌, ◌++◌, ap}
use Rattle.mx_plan.specs.Text.{Text}
use Rattle.mx_picture.specs.Drawn.{title_line}
use Rattle.mx_picture.proofs.opening.run_title.Goals as goal

pub returns : goal.returns
returns c = c.in_ok-add_title.ensures ∙ ap (λ (s : Text). s ++ title_line c.args.plan.now c.args.events) c.new-text.ensures.bytes
