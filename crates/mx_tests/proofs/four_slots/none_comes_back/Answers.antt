use Rattle.std.proofs.Common.{subst, sym}
use Rattle.mx_stations.specs.Gathered.{OfOneTable}
use Rattle.mx_stations.proofs.SameTable.{none_there}
use Rattle.mx_tests.proofs.four_slots.none_comes_back.Goals as goal

pub refused-requires : goal.refused-requires
refused-requires c = subst OfOneTable (sym c.new.ensures.items) none_there
