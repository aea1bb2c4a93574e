use Rattle.std.proofs.Common.{◌≡◌, ℕ, ◌<◌, get_or, nat_eq, false}
use Rattle.mx_cli.proofs.planning.first_feed.Given as goal

abbrev pub invariant-loop-i : goal.invariant-loop-i
invariant-loop-i l = (k : ℕ) → k < l.i → nat_eq (get_or l.bytes k 0) 10 ≡ false
