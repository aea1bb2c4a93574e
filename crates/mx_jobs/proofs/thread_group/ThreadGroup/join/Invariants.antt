use Rattle.std.proofs.Common.{◌≡◌, ◌≤◌, ◌++◌, ◌+◌, List, length, vec_capacity}
use Rattle.std.specs.List.{AllZip}
use Rattle.mx_jobs.proofs.thread_group.ThreadGroup.join.Given as goal

abbrev pub invariant-loop-last : goal.invariant-loop-last
invariant-loop-last g l = record {
  room : length l.begun.items + length l.lefts.items ≤ vec_capacity l.lefts;
  all : (done : List g.row.W.Denot) × (l.begun.items ++ done ≡ l.fn.self.works) × AllZip g.W.Work.leads done l.lefts.items;
}

abbrev pub decreases-loop-last : goal.decreases-loop-last
decreases-loop-last g l = length l.begun.items
