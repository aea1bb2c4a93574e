use Rattle.std.proofs.Common.{arith}
use Rattle.mx_live.proofs.ProgressLemmas.{tells_none}
use Rattle.mx_live.proofs.WorkerLemmas.{left_by}
use Rattle.mx_live.proofs.node_runs.run_stations.Goals as goal

pub nodes-requires : goal.nodes-requires
nodes-requires g c = omega arith

pub start_all-requires-send-C : goal.start_all-requires-send-C
start_all-requires-send-C g c κs within = record { owned = c.type_bounds.send-C.owned; leaving = c.type_bounds.send-C.leaving }

pub start_all-requires-send-C-Msg : goal.start_all-requires-send-C-Msg
start_all-requires-send-C-Msg g c κs within = record { owned = c.type_bounds.send-C-Msg.owned; leaving = c.type_bounds.send-C-Msg.leaving }

pub start_all-requires-send-C-Shape : goal.start_all-requires-send-C-Shape
start_all-requires-send-C-Shape g c κs within = record { owned = c.type_bounds.send-C-Shape.owned; leaving = c.type_bounds.send-C-Shape.leaving }

pub returns-clause-left : goal.returns-clause-left
returns-clause-left g c =
    left_by g.C.Exclusion.core _ _ _ _ c.in_ok-workers.ensures c.in_ok-join_all.ensures

pub start_all-requires-after_bounds : goal.start_all-requires-after_bounds
start_all-requires-after_bounds g c κs within = (search (c.requires-raw.1.1.1.1.1.1), omega (arith, c.nodes.ensures.high))

pub report_if_asked-requires : goal.report_if_asked-requires
report_if_asked-requires g c = search (c.requires-raw.1.1.1.1.1.1)

pub join_all-requires : goal.join_all-requires
join_all-requires g c = search (c.requires-raw.1.1.1.1.1.1)

pub start_all-requires-send-R : goal.start_all-requires-send-R
start_all-requires-send-R g c κs within = c.type_bounds.send-R

pub start_all-requires-sync-R : goal.start_all-requires-sync-R
start_all-requires-sync-R g c κs within = c.type_bounds.sync-R

pub watch_over-requires : goal.watch_over-requires
watch_over-requires g c = search (c.requires-raw.1.1.1.1.1.1)

pub drop-stations-requires-room-T-Destruct : goal.drop-stations-requires-room-T-Destruct
drop-stations-requires-room-T-Destruct g c κs within = search (c.requires-raw.1.1.1.1.1.1)

pub returns-in_err-watch-clause-progress : goal.returns-in_err-watch-clause-progress
returns-in_err-watch-clause-progress g c = tells_none c.args.options.now.progress (g.E.Output.written c.args.err.now)

pub returns-in_err-workers-clause-progress : goal.returns-in_err-workers-clause-progress
returns-in_err-workers-clause-progress g c = tells_none c.args.options.now.progress (g.E.Output.written c.args.err.now)
