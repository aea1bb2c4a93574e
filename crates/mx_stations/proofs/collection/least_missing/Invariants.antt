use Rattle.std.proofs.Common.{ℕ, ◌<◌}
use Rattle.mx_stations.specs.Gathered.{Has}
use Rattle.mx_stations.proofs.collection.least_missing.Given as goal

abbrev pub invariant-loop-index : goal.invariant-loop-index
invariant-loop-index g l = (j : ℕ) → j < l.index → Has l.stations j
