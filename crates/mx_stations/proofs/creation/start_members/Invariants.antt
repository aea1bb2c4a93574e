use Rattle.std.proofs.Common.{◌≡◌}
use Rattle.mx_stations.specs.Opened.{starts_of}
use Rattle.mx_stations.specs.Running.{all_of}
use Rattle.mx_stations.proofs.creation.start_members.Given as goal

abbrev pub invariant-loop-index : goal.invariant-loop-index
invariant-loop-index g l = l.members.items ≡ all_of l.index (starts_of g.C.Exclusion.core l.setup)
