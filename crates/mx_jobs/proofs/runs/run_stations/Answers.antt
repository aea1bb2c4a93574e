use Rattle.std.proofs.Common.{◌≡◌, length, arith}
use Rattle.mx_jobs.proofs.runs.run_stations.Goals as goal

pub run_all-requires-send-C : goal.run_all-requires-send-C
run_all-requires-send-C g c κs within = c.type_bounds.send-C

pub run_all-requires-send-J : goal.run_all-requires-send-J
run_all-requires-send-J g c κs within = c.type_bounds.send-J

pub run_all-requires-send-F : goal.run_all-requires-send-F
run_all-requires-send-F g c κs within = c.type_bounds.send-F

pub run_all-requires-send-C-Msg : goal.run_all-requires-send-C-Msg
run_all-requires-send-C-Msg g c κs within = c.type_bounds.send-C-Msg

pub run_all-requires-send-C-Shape : goal.run_all-requires-send-C-Shape
run_all-requires-send-C-Shape g c κs within = c.type_bounds.send-C-Shape

pub run_all-requires-after_bounds : goal.run_all-requires-after_bounds
run_all-requires-after_bounds g c κs within =
    let each : length c.args.jobs.items ≡ length c.args.stations.items = omega (arith, c.args.stations.ok, c.args.jobs.ok, c.if-len.false, c.len.ensures, c.len-2.ensures) in
    (search (c.requires-raw.1.1.1.1.1.1.1.1.1.1.1.1.1.1.1.1, c.requires-raw.1.1.1.1.1.1.1.1.1.1.1.1.1.1.1.1.0), (c.requires, each))

pub returns-in-Ok-clause-done : goal.returns-in-Ok-clause-done
returns-in-Ok-clause-done g c = c.in-Ok.ensures.ok

pub returns-in-Err-clause-told : goal.returns-in-Err-clause-told
returns-in-Err-clause-told g c = c.in-Err.ensures.err

pub run_all-requires-send-R : goal.run_all-requires-send-R
run_all-requires-send-R g c κs within = c.type_bounds.send-R

pub run_all-requires-sync-R : goal.run_all-requires-sync-R
run_all-requires-sync-R g c κs within = c.type_bounds.sync-R
