use Rattle.std.proofs.Common.{◌≡◌, drop, max}
use Rattle.mx_count.specs.Waits.{longest_wait}
use Rattle.mx_count.proofs.waits.longest_wait.Given as goal

abbrev pub invariant-loop-index : goal.invariant-loop-index
invariant-loop-index l = max l.longest (longest_wait (drop l.index l.trace)) ≡ longest_wait l.trace
