use Rattle.std.proofs.Common.{◌≡◌, ◌≤◌, length}
use Rattle.mx_journal.specs.Records.{above, with_records}
use Rattle.mx_journal.specs.Runs.{flatten}
use Rattle.mx_journal.proofs.joins.are_there.Given as goal

abbrev pub invariant-loop-entry : goal.invariant-loop-entry
invariant-loop-entry l = record {
  same : with_records (above l.last (flatten l.other)) (flatten l.runs) ≡ with_records (above l.from (flatten l.other)) (flatten l.runs);
  low : l.from ≤ l.last;
}

abbrev pub decreases-loop-entry : goal.decreases-loop-entry
decreases-loop-entry l = length (above l.last (flatten l.other))
