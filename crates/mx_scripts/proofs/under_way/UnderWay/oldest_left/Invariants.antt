use Rattle.std.proofs.Common.{◌<◌, ◌-◌, ℕ, length, slice_get}
use Rattle.mx_scripts.specs.UnderWay.{IsPassed}
use Rattle.mx_scripts.proofs.under_way.UnderWay.oldest_left.Given as goal

abbrev pub invariant-loop-number : goal.invariant-loop-number
invariant-loop-number l = (link k : ℕ) → k < l.number → IsPassed link (slice_get l.self k)

abbrev pub decreases-loop-number : goal.decreases-loop-number
decreases-loop-number l = length l.self - l.number
