use Rattle.std.proofs.Common.{take}
use Rattle.mx_journal.specs.Agreement.{IsSubmap}
use Rattle.mx_journal.specs.Runs.{AreNew, AreNumbersOf, AreRuns, flatten}
use Rattle.mx_journal.specs.Settled.{beyond}
use Rattle.mx_journal.proofs.joins.runs_of_new.Given as goal

abbrev pub invariant-loop-entry : goal.invariant-loop-entry
invariant-loop-entry l = record {
  runs : AreRuns 1 l.runs.items;
  listed : IsSubmap (flatten l.runs.items) (beyond l.from l.list);
  new : AreNew (flatten l.runs.items) (flatten l.known);
  all : AreNumbersOf (beyond l.from (take l.entry-index l.list)) (flatten l.runs.items) (flatten l.known);
}
