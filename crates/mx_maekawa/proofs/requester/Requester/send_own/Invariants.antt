use Rattle.std.proofs.Common.{◌≡◌, ◌≤◌, length}
use Rattle.mx_nodelaws.specs.World.{addressed}
use Rattle.mx_maekawa.specs.RequesterStep.{to_own}
use Rattle.mx_maekawa.proofs.requester.Requester.send_own.Given as goal

abbrev pub invariant-loop-i : goal.invariant-loop-i
invariant-loop-i l = record {
  sent : l.out ≡ addressed (to_own l.self l.letter) l.i;
  few : length l.out ≤ l.i;
}
