use Rattle.std.proofs.Common.{◌≡◌, Bool, List, length}
use Rattle.mx_scripts.specs.UnderWay.{IsListed}
use Rattle.mx_scripts.proofs.under_way.UnderWay.grow.Given as goal

abbrev pub invariant-loop-number : goal.invariant-loop-number
invariant-loop-number g l = record {
  count : l._number ≡ length l.self;
  kept : (gone : List Bool) → IsListed l.cluster.sent gone l.initial.self → IsListed l.cluster.sent gone l.self;
}
