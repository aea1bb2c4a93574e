use Rattle.mx_stations.proofs.SameTable.{kept_on}
use Rattle.mx_tests.proofs.settled_stations.end.Goals as goal

pub returns-then-is_due : goal.returns-then-is_due
returns-then-is_due g c = kept_on c.args.station.now c.leave-has_left.new.station c.settle.new.station c.leave-has_left.ensures c.settle.ensures
