use Rattle.std.proofs.Common.{◌≡◌, ◌+◌, ◌≤◌, ◌++◌}
use Rattle.mx_journal.proofs.runs.move_before.Given as goal

abbrev pub invariant-loop-other : goal.invariant-loop-other
invariant-loop-other l = record {
  moved : l.before.items ++ l.records.items ≡ l.fn.before.items ++ l.fn.records.items;
  room : l.records.len + l.before.len ≤ l.records.cap;
}

abbrev pub decreases-loop-other : goal.decreases-loop-other
decreases-loop-other l = l.before.len
