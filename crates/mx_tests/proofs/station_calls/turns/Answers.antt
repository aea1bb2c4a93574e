use Rattle.mx_ricart.specs.Step.{ricart_core}
use Rattle.mx_stations.proofs.SameTable.{goes_kept}
use Rattle.mx_tests.proofs.station_calls.turns.Goals as goal

pub returns-then-eq : goal.returns-then-eq
returns-then-eq c = goes_kept ricart_core c.args.station.now c.turn-done.new.self c.turn-done.ensures.goes

pub returns-else-eq : goal.returns-else-eq
returns-else-eq c = goes_kept ricart_core c.args.station.now c.turn-done.new.self c.turn-done.ensures.goes
