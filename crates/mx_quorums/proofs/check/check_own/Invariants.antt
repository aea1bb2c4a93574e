use Rattle.std.proofs.Common.{ℕ, ◌<◌}
use Rattle.mx_quorums.specs.Rows.{IsMember}
use Rattle.mx_quorums.proofs.check.check_own.Given as goal

-- each node so far is in its own set
abbrev pub invariant-loop-i : goal.invariant-loop-i
invariant-loop-i l = (k : ℕ) → k < l.i → IsMember l.rows k k
