use Rattle.mx_driver.specs.Sinks.{replay_lines}
use Rattle.mx_driver.proofs.SinkLemmas.{end_alike}
use Rattle.mx_driver.specs.Shown.{view_lines}
use Rattle.mx_driver.proofs.view.ends_as_replay.Goals as goal

pub returns : goal.returns
returns c = λ view. end_alike (view_lines c.args.plan.now view) (replay_lines c.args.plan.now) c.args.plan.now c.args.events.now c.args.plan.now.shape
