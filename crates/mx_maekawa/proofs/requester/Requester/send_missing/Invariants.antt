use Rattle.std.proofs.Common.{◌≡◌, ◌≤◌, length}
use Rattle.mx_nodelaws.specs.World.{addressed}
use Rattle.mx_maekawa.specs.RequesterStep.{to_missing}
use Rattle.mx_maekawa.proofs.requester.Requester.send_missing.Given as goal

abbrev pub invariant-loop-i : goal.invariant-loop-i
invariant-loop-i l = record {
  sent : l.out ≡ addressed (to_missing l.self l.letter) l.i;
  few : length l.out ≤ l.i;
}
