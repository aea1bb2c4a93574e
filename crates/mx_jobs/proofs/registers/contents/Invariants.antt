use Rattle.std.proofs.Common.{◌≡◌, length, take}
use Rattle.mx_jobs.specs.Laws.{values_in}
use Rattle.mx_jobs.proofs.registers.contents.Given as goal

abbrev pub invariant-loop-register : goal.invariant-loop-register
invariant-loop-register l = (l.contents.items ≡ take l.register (values_in l.view)) × (length (values_in l.view) ≡ l.count)
