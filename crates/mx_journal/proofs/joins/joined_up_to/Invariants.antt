use Rattle.std.proofs.Common.{◌≡◌, ◌+◌, ◌-◌, ◌≤◌, length}
use Rattle.mx_journal.specs.Records.{above}
use Rattle.mx_journal.specs.Runs.{AreRuns, IsJoinedUpTo, flatten}
use Rattle.mx_journal.proofs.joins.joined_up_to.Given as goal

abbrev pub invariant-loop-entry : goal.invariant-loop-entry
invariant-loop-entry l = record {
  runs : AreRuns 1 l.joined.items;
  records : IsJoinedUpTo l.from l.last (flatten l.runs) (flatten l.other) (flatten l.joined.items);
  count : length (flatten l.joined.items) + length (above l.last (flatten l.runs)) ≡ length (above l.from (flatten l.runs)) + l.count;
  few : l.count ≤ l.last;
  low : l.from ≤ l.last;
  high : l.last ≤ l.to;
}

abbrev pub decreases-loop-entry : goal.decreases-loop-entry
decreases-loop-entry l = l.to - l.last
