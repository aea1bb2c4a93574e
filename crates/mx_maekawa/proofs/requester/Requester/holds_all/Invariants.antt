use Rattle.std.proofs.Common.{◌≡◌}
use Rattle.mx_nodelaws.specs.Tests.{all_below}
use Rattle.mx_maekawa.specs.RequesterStep.{is_held}
use Rattle.mx_maekawa.proofs.requester.Requester.holds_all.Given as goal

abbrev pub invariant-loop-i : goal.invariant-loop-i
invariant-loop-i l = l.all ≡ all_below (is_held l.self) l.i
