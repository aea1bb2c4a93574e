use Rattle.std.proofs.Common.{◌≡◌, ◌≤◌, ◌+◌, ◌++◌, length}
use Rattle.mx_maekawa.specs.RequesterStep.{give_below}
use Rattle.mx_maekawa.proofs.requester.Requester.fail.Given as goal

abbrev pub invariant-loop-i : goal.invariant-loop-i
invariant-loop-i l = record {
  state : l.self ≡ (give_below l.i l.initial.self).state;
  letters : l.out ≡ l.initial.out ++ (give_below l.i l.initial.self).letters;
  few : length l.out ≤ length l.initial.out + l.i;
}
