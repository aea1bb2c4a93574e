use Rattle.mx_ricart.specs.Step.{ricart_core}
use Rattle.mx_stations.proofs.SameTable.{take_kept}
use Rattle.mx_tests.proofs.station_calls.takes.Goals as goal

pub returns-in-Some : goal.returns-in-Some
returns-in-Some c = take_kept ricart_core c.in-Some.other c.take_in.result c.args.station.now c.take_in.new.self c.take_in.ensures.taken c.take_in.ensures.memory
