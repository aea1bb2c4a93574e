use Rattle.std.proofs.Common.{◌≡◌, ◌≤◌, ◌+◌, ◌++◌, List, length, map, vec_capacity}
use Rattle.mx_stations.specs.Turns.{Station}
use Rattle.mx_jobs.specs.declared.worker.Ended.{Ended}
use Rattle.mx_jobs.specs.Faults.{Tells}
use Rattle.mx_jobs.proofs.threads.put_back.Given as goal

abbrev pub invariant-loop-left : goal.invariant-loop-left
invariant-loop-left g l = record {
  stations_room : length l.lefts.items + length l.stations.items ≤ vec_capacity l.stations;
  jobs_room : length l.lefts.items + length l.jobs.items ≤ vec_capacity l.jobs;
  all : (done : List (Station g.C.Exclusion.core × g.row.J.Denot × Ended)) × (l.lefts.items ++ done ≡ l.fn.lefts.items)
      × (l.stations.items ≡ map (λ (one : Station g.C.Exclusion.core × g.row.J.Denot × Ended). one.0) done)
      × (l.jobs.items ≡ map (λ (one : Station g.C.Exclusion.core × g.row.J.Denot × Ended). one.1) done)
      × Tells l.fault (map (λ (one : Station g.C.Exclusion.core × g.row.J.Denot × Ended). one.2) done);
}

abbrev pub decreases-loop-left : goal.decreases-loop-left
decreases-loop-left g l = length l.lefts.items
