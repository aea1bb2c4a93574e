use Rattle.std.proofs.Common.{ℕ, ◌<◌}
use Rattle.mx_quorums.specs.Rules.{MeetsAll}
use Rattle.mx_quorums.specs.Rows.{IsMember}
use Rattle.mx_quorums.proofs.check.check_pairs.Given as goal

-- the set of each node so far meets each set
abbrev pub invariant-loop-i : goal.invariant-loop-i
invariant-loop-i l = (k : ℕ) → k < l.i → MeetsAll (IsMember l.rows) l.nodes k
