use Rattle.std.proofs.Common.{take}
use Rattle.mx_journal.specs.Records.{IsNumbered}
use Rattle.mx_journal.proofs.puts.has_zero.Given as goal

abbrev pub invariant-loop-entry : goal.invariant-loop-entry
invariant-loop-entry l = IsNumbered (take l.entry-index l.list)
