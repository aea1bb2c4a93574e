use Rattle.std.proofs.Common.{ℕ, ◌<◌}
use Rattle.mx_quorums.specs.Rules.{Meet}
use Rattle.mx_quorums.specs.Rows.{IsMember}
use Rattle.mx_quorums.proofs.check.first_apart.Given as goal

-- the set of each node so far meets that of node i
abbrev pub invariant-loop-j : goal.invariant-loop-j
invariant-loop-j l = (m : ℕ) → m < l.j → Meet (IsMember l.rows) l.i m
