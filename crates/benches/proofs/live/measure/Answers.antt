use Rattle.benches.proofs.live.measure.Goals as goal

pub run_nodes-requires-send-C : goal.run_nodes-requires-send-C
run_nodes-requires-send-C g c κs within = c.type_bounds.send-C

pub run_nodes-requires-send-C-Msg : goal.run_nodes-requires-send-C-Msg
run_nodes-requires-send-C-Msg g c κs within = c.type_bounds.send-C-Msg

pub run_nodes-requires-send-C-Shape : goal.run_nodes-requires-send-C-Shape
run_nodes-requires-send-C-Shape g c κs within = c.type_bounds.send-C-Shape

pub run_nodes-requires-sync-R : goal.run_nodes-requires-sync-R
run_nodes-requires-sync-R g c κs within = c.type_bounds.sync-R

pub run_nodes-requires-send-R : goal.run_nodes-requires-send-R
run_nodes-requires-send-R g c κs within = c.type_bounds.send-R

pub run_nodes-requires-after_bounds : goal.run_nodes-requires-after_bounds
run_nodes-requires-after_bounds g c κs within = search (c.requires-raw.1.1.1.1.1.1)

pub drop-stations-requires-room-T-Destruct : goal.drop-stations-requires-room-T-Destruct
drop-stations-requires-room-T-Destruct g c κs within = search (c.requires-raw.1.1.1.1.1.1)
