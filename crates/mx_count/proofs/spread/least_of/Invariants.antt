use Rattle.std.proofs.Common.{◌≡◌, min, take}
use Rattle.std.specs.List.{fold}
use Rattle.mx_count.proofs.spread.least_of.Given as goal

abbrev pub invariant-loop-number : goal.invariant-loop-number
invariant-loop-number l = l.least ≡ fold min l.first (take l.number-index l.rest)
