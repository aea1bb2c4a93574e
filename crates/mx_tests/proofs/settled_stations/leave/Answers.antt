use Rattle.mx_member.specs.declared.acts.Act.TheVariants.{Leave, Write}
use Rattle.mx_stations.proofs.SameTable.{act_kept, kept_on}
use Rattle.mx_tests.proofs.settled_stations.leave.Goals as goal

pub returns : goal.returns
returns g c =
    let core = g.C.Exclusion.core in
    let start = c.args.station.now in
    kept_on start c.write.new.self c.leave.new.self (act_kept core (Write _ _) c.write.result start c.write.new.self c.write.ensures.done c.write.ensures.refused)
    (act_kept core Leave c.leave.result c.write.new.self c.leave.new.self c.leave.ensures.done c.leave.ensures.refused)
