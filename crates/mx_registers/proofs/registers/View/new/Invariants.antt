use Rattle.std.proofs.Common.{◌≡◌, length}
use Rattle.mx_stamps.specs.Lists.{each_below}
use Rattle.mx_registers.specs.Registers.{blank}
use Rattle.mx_registers.proofs.registers.View.new.Given as goal

abbrev pub invariant-loop : goal.invariant-loop
invariant-loop l = record {
  contents : l.contents.items ≡ each_below (λ _. blank) l.counter;
  size : length l.contents.items ≡ l.counter;
}
