use Rattle.std.proofs.Common.{ℕ, ◌<◌, ◌≢◌, []}
use Rattle.mx_quorums.specs.Lists.{lists_of, list_of}
use Rattle.mx_quorums.proofs.lists.check_filled.Given as goal

-- no list so far is empty
abbrev pub invariant-loop-i : goal.invariant-loop-i
invariant-loop-i l = (k : ℕ) → k < l.i → list_of (lists_of l.sets) k ≢ []
