use Rattle.std.proofs.Common.{◌≡◌, ◌+◌, ◌≤◌, ◌++◌}
use Rattle.mx_journal.proofs.runs.move_behind.Given as goal

abbrev pub invariant-loop-other : goal.invariant-loop-other
invariant-loop-other l = record {
  moved : l.records.items ++ l.behind.items ≡ l.fn.records.items ++ l.fn.behind.items;
  room : l.records.len + l.behind.len ≤ l.records.cap;
}

abbrev pub decreases-loop-other : goal.decreases-loop-other
decreases-loop-other l = l.behind.len
