use Rattle.std.proofs.Common.{arith}
use Rattle.std.proofs.lemmas.Grind.{common_steps}
use Rattle.mx_format.proofs.PlanLemmas.{least_is}
use Rattle.mx_format.proofs.plan_facts.FactPrinter.add_meetings.Goals as goal

pub loop-second-preserved : goal.loop-second-preserved
loop-second-preserved c =
    let least = least_is c.args.sets.now c.args.first c.in-Some.second c.meeting-node.result c.meeting-node.ensures in
    let added = rw least at c.in_ok-add.ensures in
    grind (arith, common_steps, added)
