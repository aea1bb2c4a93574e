use Rattle.std.proofs.Common.{◌↔◌, suc, drop}
use Rattle.mx_journal.specs.Records.{Ascending}
use Rattle.mx_journal.proofs.puts.ascends.Given as goal

abbrev pub invariant-loop-entry : goal.invariant-loop-entry
invariant-loop-entry l = Ascending (suc l.last) (drop l.entry-index l.list) ↔ Ascending 1 l.list
