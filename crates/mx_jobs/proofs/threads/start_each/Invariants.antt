use Rattle.std.proofs.Common.{◌≡◌, ◌≤◌, ◌+◌, ◌++◌, length, vec_capacity}
use Rattle.mx_jobs.specs.Posted.{AreReady, workers}
use Rattle.mx_jobs.proofs.threads.start_each.Given as goal

abbrev pub invariant-loop-station : goal.invariant-loop-station
invariant-loop-station g l = record {
  ready : AreReady g.J.Job.ready l.jobs.items;
  each : length l.jobs.items ≡ length l.stations.items;
  linked : length l.stations.items ≤ length l.fates.items;
  fit : length l.group.works + length l.stations.items ≤ l.group.room;
  all : l.group.works ++ workers l.fn.options l.stations.items l.jobs.items l.fates.items ≡ workers l.fn.options l.fn.stations.items l.fn.jobs.items l.fn.fates.items;
  stations_room : vec_capacity l.stations ≡ vec_capacity l.fn.stations;
  jobs_room : vec_capacity l.jobs ≡ vec_capacity l.fn.jobs;
}

abbrev pub decreases-loop-station : goal.decreases-loop-station
decreases-loop-station g l = length l.stations.items
