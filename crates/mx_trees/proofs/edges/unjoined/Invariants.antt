use Rattle.std.proofs.Common.{ℕ, ◌≡◌, ◌<◌, true}
use Rattle.mx_trees.specs.Growth.{is_reached}
use Rattle.mx_trees.proofs.edges.unjoined.Given as goal

abbrev pub invariant-loop-i : goal.invariant-loop-i
invariant-loop-i l = (k : ℕ) → k < l.i → is_reached l.growth k ≡ true
