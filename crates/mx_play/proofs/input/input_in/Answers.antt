use Rattle.mx_play.proofs.LinePlanLemmas.{means_on_ok}
use Rattle.mx_play.proofs.input.input_in.Goals as goal

pub returns-in-Ok-clause-means : goal.returns-in-Ok-clause-means
returns-in-Ok-clause-means c = means_on_ok c.args.plan.now c.in-Ok.text.now c.args.line.now c.in-Ok.ensures.cases.0 c.in-Ok.ensures.cases.1 c.input_in_text.result c.input_in_text.ensures.means

pub returns-in-Err-clause-means : goal.returns-in-Err-clause-means
returns-in-Err-clause-means c = λ short. c.in-Err.ensures.cases.0
