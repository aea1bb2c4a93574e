use Rattle.mx_driver.proofs.ShownLemmas.{shown_by}
use Rattle.mx_driver.proofs.view.shows_run.Goals as goal

pub returns : goal.returns
returns c = λ view. shown_by c.args.plan.now view c.args.events.now c.args.plan.now.shape
