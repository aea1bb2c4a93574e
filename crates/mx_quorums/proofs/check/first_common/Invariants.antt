use Rattle.std.proofs.Common.{ℕ, ◌<◌}
use Rattle.mx_quorums.specs.Rows.{BothMark}
use Rattle.mx_quorums.proofs.check.first_common.Given as goal

-- no node so far is in both sets
abbrev pub invariant-loop-k : goal.invariant-loop-k
invariant-loop-k l = (m : ℕ) → m < l.k → BothMark l.a l.b m → ⊥
