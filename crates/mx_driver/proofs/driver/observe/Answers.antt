use Rattle.mx_cli.proofs.FrameLemmas.{silent_prints}
use Rattle.mx_driver.specs.Jobs.{run_by}
use Rattle.mx_driver.specs.Sinks.{TextsBy, replay_lines, report_by}
use Rattle.mx_driver.proofs.SinkLemmas.{end_alike}
use Rattle.mx_driver.proofs.driver.observe.Goals as goal

pub returns : goal.returns
returns g c =
    let p = c.args.plan.now in
    let es = c.args.events.now in
    let texts : TextsBy = record { ricart = g.K.Sink-1.texts c.args.sink.now p; maekawa = g.K.Sink-2.texts c.args.sink.now p; raymond = g.K.Sink-3.texts c.args.sink.now p } in
    record { prints = silent_prints (report_by texts p p.shape es) (run_by p p.shape es) (end_alike texts (replay_lines p) p es p.shape) c.drive.result c.drive.ensures.prints; told = c.drive.ensures.told }
