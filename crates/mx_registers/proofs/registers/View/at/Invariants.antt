use Rattle.std.proofs.Common.{◌≡◌, length}
use Rattle.mx_stamps.specs.Lists.{each_below}
use Rattle.mx_registers.specs.Based.{cell_in}
use Rattle.mx_registers.proofs.registers.View.at.Given as goal

abbrev pub invariant-loop-register : goal.invariant-loop-register
invariant-loop-register l = record {
  contents : l.contents.items ≡ each_below (λ register. cell_in register l.base) l.register;
  size : length l.contents.items ≡ l.register;
}
