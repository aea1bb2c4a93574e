use Rattle.std.proofs.Common.{◌≡◌}
use Rattle.mx_maekawa.specs.ArbiterStep.{least_of, waiting_at}
use Rattle.mx_maekawa.proofs.arbiter.Arbiter.least.Given as goal

abbrev pub invariant-loop-i : goal.invariant-loop-i
invariant-loop-i l = l.least ≡ least_of (waiting_at l.self) l.i
