use Rattle.mx_member.specs.declared.acts.Act.TheVariants.{Leave}
use Rattle.mx_ricart.specs.Step.{ricart_core}
use Rattle.mx_stations.proofs.SameTable.{act_kept}
use Rattle.mx_tests.proofs.four_slots.leaves.Goals as goal

pub returns : goal.returns
returns c = act_kept ricart_core Leave c.leave.result c.args.station.now c.leave.new.self c.leave.ensures.done c.leave.ensures.refused
