use Rattle.std.proofs.Common.{◌≡◌, ◌<◌, ◌-◌, ℕ, false, slice_get}
use Rattle.mx_scripts.specs.Fates.{IsOver, is_wanted}
use Rattle.mx_scripts.proofs.state.State.oldest_over.Given as goal

abbrev pub invariant-loop-number : goal.invariant-loop-number
invariant-loop-number g l = (k : ℕ) → k < l.number → IsOver l.link (slice_get l.self.cluster.sent k) → is_wanted l.self.fates l.self.cluster.sent l.scope l.wanted k ≡ false

abbrev pub decreases-loop-number : goal.decreases-loop-number
decreases-loop-number g l = l.end - l.number
