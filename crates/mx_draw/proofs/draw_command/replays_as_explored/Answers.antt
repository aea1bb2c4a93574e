use Rattle.mx_draw.specs.Runs.{schedule_of}
use Rattle.mx_draw.proofs.DrawnLemmas.{drawn_read}
use Rattle.mx_draw.proofs.RunLemmas.{leads}
use Rattle.mx_draw.proofs.draw_command.replays_as_explored.Goals as goal

pub returns-clause-reads : goal.returns-clause-reads
returns-clause-reads c = λ valid few sent. drawn_read c.args.plan.now valid c.args.seed c.args.steps few sent

pub returns-clause-leads : goal.returns-clause-leads
returns-clause-leads c =
    let p = c.args.plan.now in
    leads p (schedule_of c.args.seed c.args.steps) (rw (← c.nodes.ensures.value) c.nodes.ensures.low) (rw (← c.registers.ensures.value) c.registers.ensures.low) p.shape
