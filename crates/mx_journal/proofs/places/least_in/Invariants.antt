use Rattle.std.proofs.Common.{◌≡◌, ◌-◌, ◌+◌, ◌≤◌, ◌++◌, length, take}
use Rattle.mx_journal.specs.Records.{above, in_range}
use Rattle.mx_journal.specs.Runs.{flatten}
use Rattle.mx_journal.proofs.places.least_in.Given as goal

abbrev pub invariant-loop-entry : goal.invariant-loop-entry
invariant-loop-entry l = record {
  same : l.found.items ++ take (4 - length l.found.items) (in_range l.range (above l.last (flatten l.runs))) ≡ take 4 (in_range l.range (flatten l.runs));
  low : l.range.first ≤ l.last + 1;
}

abbrev pub decreases-loop-entry : goal.decreases-loop-entry
decreases-loop-entry l = length (above l.last (flatten l.runs))
