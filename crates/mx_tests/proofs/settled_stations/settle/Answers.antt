use Rattle.mx_member.specs.declared.acts.Act.TheVariants.{Settle}
use Rattle.mx_stations.proofs.SameTable.{act_kept}
use Rattle.mx_tests.proofs.settled_stations.settle.Goals as goal

pub returns : goal.returns
returns g c = act_kept g.C.Exclusion.core (Settle _) c.settle.result c.args.station.now c.settle.new.self c.settle.ensures.done c.settle.ensures.refused
