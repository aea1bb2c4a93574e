use Rattle.std.proofs.Common.{take}
use Rattle.mx_journal.specs.Agreement.{AgreesWith}
use Rattle.mx_journal.proofs.puts.agrees_in.Given as goal

abbrev pub invariant-loop-other : goal.invariant-loop-other
invariant-loop-other l = AgreesWith l.entry (take l.other-index l.list)
