use Rattle.std.proofs.Common.{subst, sym}
use Rattle.mx_stations.specs.Gathered.{OfOneTable}
use Rattle.mx_stations.proofs.SameTable.{both_there}
use Rattle.mx_tests.proofs.four_slots.both_come_back.Goals as goal

pub refused-requires : goal.refused-requires
refused-requires c = subst OfOneTable (sym c.in_ok-stations.ensures.items) (both_there c.args.both.0 c.args.both.1 c.requires)
