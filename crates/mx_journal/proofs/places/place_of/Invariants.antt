use Rattle.std.proofs.Common.{◌≤◌, ◌-◌, length}
use Rattle.mx_journal.specs.Runs.{runs_up_to}
use Rattle.mx_journal.proofs.places.place_of.Given as goal

abbrev pub invariant-loop-low : goal.invariant-loop-low
invariant-loop-low l = record {
  ended : l.low ≤ runs_up_to l.number l.runs;
  goes_on : runs_up_to l.number l.runs ≤ l.high;
  inside : l.high ≤ length l.runs;
}

abbrev pub decreases-loop-low : goal.decreases-loop-low
decreases-loop-low l = l.high - l.low
