use Rattle.std.proofs.Common.{◌≡◌}
use Rattle.mx_maekawa.specs.ArbiterStep.{least_of, others_at}
use Rattle.mx_maekawa.proofs.arbiter.Arbiter.least_but.Given as goal

abbrev pub invariant-loop-i : goal.invariant-loop-i
invariant-loop-i l = l.least ≡ least_of (others_at l.self l.but) l.i
