use Rattle.std.proofs.Common.{◌≡◌, take}
use Rattle.mx_member.proofs.parcel.copy_of_ranges.Given as goal

abbrev pub invariant-loop-range : goal.invariant-loop-range
invariant-loop-range l = l.copy.items ≡ take l.range-index l.range-items
