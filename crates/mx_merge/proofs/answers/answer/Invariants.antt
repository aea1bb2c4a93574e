use Rattle.std.proofs.Common.{◌≡◌, ◌++◌, ◌≤◌, take, length}
use Rattle.mx_journal.specs.Records.{Ascending, above}
use Rattle.mx_merge.specs.Missing.{in_ranges}
use Rattle.mx_merge.proofs.answers.answer.Given as goal

abbrev pub invariant-loop-entry : goal.invariant-loop-entry
invariant-loop-entry l = record {
  same : Ascending 1 l.journal.records → take 4 (l.found.items ++ in_ranges l.ranges (above l.last l.journal.records)) ≡ take 4 (in_ranges l.ranges l.journal.records);
  room : length l.found.items ≤ 4;
}

abbrev pub decreases-loop-entry : goal.decreases-loop-entry
decreases-loop-entry l = length (above l.last l.journal.records)
