use Rattle.std.proofs.Common.{◌-◌}
use Rattle.std.specs.List.{count_by}
use Rattle.mx_trees.specs.Growth.{IsGrown}
use Rattle.mx_trees.proofs.growth.Growth.from.Given as goal

abbrev pub invariant-loop-near : goal.invariant-loop-near
invariant-loop-near l = IsGrown l.edges l.fn.root l.growth

abbrev pub decreases-loop-near : goal.decreases-loop-near
decreases-loop-near l = 21 - count_by (λ r. r) l.growth.reached
