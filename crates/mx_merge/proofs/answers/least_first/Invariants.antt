use Rattle.std.proofs.Common.{◌≤◌, ◌⊎◌, drop}
use Rattle.mx_stamps.specs.Lists.{IsIn}
use Rattle.mx_journal.specs.declared.ranges.Range.{Range}
use Rattle.mx_merge.proofs.answers.least_first.Given as goal

-- the least so far is below each range but those to come
abbrev pub invariant-loop-range : goal.invariant-loop-range
invariant-loop-range l = (range : Range) → IsIn range l.ranges → (l.least ≤ range.first) ⊎ IsIn range (drop l.range-index l.ranges)
