use Rattle.mx_member.specs.declared.acts.Act.TheVariants.{Ask}
use Rattle.mx_ricart.specs.Step.{ricart_core}
use Rattle.mx_stations.proofs.SameTable.{act_kept, put_kept}
use Rattle.mx_tests.proofs.station_calls.holds.Goals as goal

pub returns-in-Ask : goal.returns-in-Ask
returns-in-Ask c = act_kept ricart_core Ask c.ask.result c.args.station.now c.ask.new.self c.ask.ensures.done c.ask.ensures.refused

pub returns-in-PutsOut : goal.returns-in-PutsOut
returns-in-PutsOut c = put_kept c.args.station.now c.put_out.new.self c.put_out.result c.put_out.ensures
