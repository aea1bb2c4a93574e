use Rattle.std.proofs.Common.{ℕ, ◌<◌}
use Rattle.mx_stations.specs.Gathered.{NotInside}
use Rattle.mx_stations.proofs.collection.least_inside.Given as goal

abbrev pub invariant-loop-index : goal.invariant-loop-index
invariant-loop-index g l = (j : ℕ) → j < l.index → NotInside g.C.Exclusion.core l.stations j
