use Rattle.std.proofs.Common.{◌≡◌, take}
use Rattle.mx_member.proofs.parcel.copy_of_records.Given as goal

abbrev pub invariant-loop-entry : goal.invariant-loop-entry
invariant-loop-entry l = l.copy.items ≡ take l.entry-index l.entry-items
