use Rattle.std.proofs.Common.{◌≡◌, take}
use Rattle.mx_stamps.specs.Lists.{each_below}
use Rattle.mx_driver.specs.Standstill.{is_delivered}
use Rattle.mx_driver.proofs.standstill.delivered.Given as goal

abbrev pub invariant-loop-entry : goal.invariant-loop-entry
invariant-loop-entry l = l.marks.items ≡ each_below (is_delivered (take l.entry-index l.trace)) l.sent
