use Rattle.std.proofs.Common.{rules}
use Rattle.mx_stations.proofs.collection.fault_of.Goals as goal

pub least_missing-requires : goal.least_missing-requires
least_missing-requires g c = search rules

pub least_inside-requires : goal.least_inside-requires
least_inside-requires g c = search rules

pub returns-in-Some : goal.returns-in-Some
returns-in-Some g c = record { some = c.in-Some.ensures.some; none = tt }

pub returns-in-Some-least_inside : goal.returns-in-Some-least_inside
returns-in-Some-least_inside g c = record { some = (c.in_default.ensures.none, c.in-Some-least_inside.ensures.some); none = tt }

pub returns : goal.returns
returns g c = record { some = tt; none = (c.in_default.ensures.none, c.in_default-least_inside.ensures.none) }
