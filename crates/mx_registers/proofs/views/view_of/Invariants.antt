use Rattle.std.proofs.Common.{◌≡◌, take}
use Rattle.mx_registers.specs.Registers.{registers_of}
use Rattle.mx_registers.proofs.views.view_of.Given as goal

abbrev pub invariant-loop-entry : goal.invariant-loop-entry
invariant-loop-entry l = l.shown ≡ registers_of l.count (take l.entry-index l.records)
