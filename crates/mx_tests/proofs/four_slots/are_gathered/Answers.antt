use Rattle.std.proofs.Common.{rules, subst, sym}
use Rattle.mx_stations.specs.Gathered.{OfOneTable}
use Rattle.mx_stations.proofs.SameTable.{both_there}
use Rattle.mx_tests.proofs.four_slots.are_gathered.Goals as goal

pub gather-requires : goal.gather-requires
gather-requires c = (search rules, subst OfOneTable (sym c.in_ok-stations.ensures.items) (both_there c.args.both.0 c.args.both.1 c.requires))
