use Rattle.std.proofs.Common.{◌≡◌, ◌+◌, ◌*◌, ◌<◌, take}
use Rattle.std.specs.List.{fold}
use Rattle.mx_count.proofs.spread.sum_of.Given as goal

abbrev pub invariant-loop-number : goal.invariant-loop-number
invariant-loop-number l = record {
  whole : l.sum ≡ fold (λ a b. a + b) l.first (take l.number-index l.rest);
  small : l.sum < 18446744073709551616 * l.number-index + 18446744073709551616;
}
