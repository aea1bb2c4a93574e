use Rattle.std.proofs.Common.{take, ◌++◌}
use Rattle.mx_journal.specs.Runs.{flatten}
use Rattle.mx_journal.specs.Settled.{beyond}
use Rattle.mx_journal.proofs.Disputes.{IsLeastSoFar}
use Rattle.mx_journal.proofs.puts.least_conflict.Given as goal

abbrev pub invariant-loop-entry : goal.invariant-loop-entry
invariant-loop-entry l = IsLeastSoFar l.least (beyond l.from (take l.entry-index l.list)) (flatten l.runs ++ beyond l.from l.list)
