use Rattle.std.proofs.Common.{ℕ, ◌≡◌, ◌<◌, slice_index_or}
use Rattle.mx_trees.specs.Growth.{is_reached}
use Rattle.mx_trees.proofs.growth.Growth.crossing.Given as goal

abbrev pub invariant-loop-a : goal.invariant-loop-a
invariant-loop-a l = (k : ℕ) → k < l.a-index → is_reached l.self (slice_index_or l.edges k (0, 0)).0 ≡ is_reached l.self (slice_index_or l.edges k (0, 0)).1
