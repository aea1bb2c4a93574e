use Rattle.std.proofs.Common.{ℕ, ◌<◌}
use Rattle.mx_quorums.specs.Lists.{lists_of, IsListed}
use Rattle.mx_quorums.proofs.lists.check_members.Given as goal

-- each member so far is a node
abbrev pub invariant-loop-i : goal.invariant-loop-i
invariant-loop-i l = (k : ℕ) → k < l.i → (j : ℕ) → IsListed (lists_of l.sets) k j → j < l.nodes
