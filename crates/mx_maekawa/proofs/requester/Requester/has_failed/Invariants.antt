use Rattle.std.proofs.Common.{◌≡◌}
use Rattle.mx_maekawa.specs.RequesterStep.{has_failed_below}
use Rattle.mx_maekawa.proofs.requester.Requester.has_failed.Given as goal

abbrev pub invariant-loop-i : goal.invariant-loop-i
invariant-loop-i l = l.any ≡ has_failed_below l.self l.i
