use Rattle.std.proofs.Common.{◌≤◌, Option, ap, arith, length, map, subst}
use Rattle.mx_stations.specs.Turns.{Station}
use Rattle.mx_jobs.specs.declared.faults.RunFault.{RunFault}
use Rattle.mx_jobs.specs.declared.worker.Ended.{Ended}
use Rattle.mx_jobs.specs.declared.worker.Ended.TheVariants.{GateShut}
use Rattle.mx_jobs.specs.Faults.{Tells}
use Rattle.mx_jobs.proofs.Promised.{back_as, done_as, left_many, none_begun}
use Rattle.mx_jobs.proofs.Telling.{before_ends, told_of}
use Rattle.mx_jobs.proofs.runs.run_all.Goals as goal

pub returns-then-len-clause-back : goal.returns-then-len-clause-back
returns-then-len-clause-back g c = (
  map (λ (s : Station g.C.Exclusion.core). GateShut) c.args.stations.now.items,
  none_begun g.J.Job.terms g.C.Exclusion.core c.args.options c.args.stations.now.items c.args.jobs.now.items c.requires.each,
)

pub returns-in_default-clause-back : goal.returns-in_default-clause-back
returns-in_default-clause-back g c = (
  map (λ (s : Station g.C.Exclusion.core). GateShut) c.args.stations.now.items,
  none_begun g.J.Job.terms g.C.Exclusion.core c.args.options c.args.stations.now.items c.args.jobs.now.items c.requires.each,
)

pub count_of-nodes-requires : goal.count_of-nodes-requires
count_of-nodes-requires g c = search (c.requires-raw.1.1.1.1.1.1.1.1.1.1.1.1.1.1.1.1, c.requires-raw.1.1.1.1.1.1.1.1.1.1.1.1.1.1.1.1.0)

pub new-requires-room-W-Work : goal.new-requires-room-W-Work
new-requires-room-W-Work g c κs within = search (c.requires-raw.1.1.1.1.1.1.1.1.1.1.1.1.1.1.1.1, c.requires-raw.1.1.1.1.1.1.1.1.1.1.1.1.1.1.1.1.0)

pub new-requires-room-T-Destruct : goal.new-requires-room-T-Destruct
new-requires-room-T-Destruct g c κs within = search (c.requires-raw.1.1.1.1.1.1.1.1.1.1.1.1.1.1.1.1, c.requires-raw.1.1.1.1.1.1.1.1.1.1.1.1.1.1.1.1.0)

pub new-requires-room-W-Destruct : goal.new-requires-room-W-Destruct
new-requires-room-W-Destruct g c κs within = search (c.requires-raw.1.1.1.1.1.1.1.1.1.1.1.1.1.1.1.1, c.requires-raw.1.1.1.1.1.1.1.1.1.1.1.1.1.1.1.1.0)

pub new-requires-after_bounds : goal.new-requires-after_bounds
new-requires-after_bounds g c κs within = omega (arith, c.count_of-nodes.ensures)

pub start_each-requires-after_bounds : goal.start_each-requires-after_bounds
start_each-requires-after_bounds g c κs within =
    let room = ap (λ group. group.room) c.in-Ok.ensures in (
      search (c.requires-raw.1.1.1.1.1.1.1.1.1.1.1.1.1.1.1.1, c.requires-raw.1.1.1.1.1.1.1.1.1.1.1.1.1.1.1.1.0),
      (
        c.requires.ready,
        (
          ap (λ group. group.works) c.in-Ok.ensures,
          (
            omega (arith, room, c.len-3.ensures, c.args.stations.now.ok),
            (c.requires.each, omega (arith, c.if-len.false, c.len.ensures, c.len-2.ensures, c.args.stations.now.ok, c.args.fates.ok)),
          ),
        ),
      ),
    )

pub start_each-requires-send-C : goal.start_each-requires-send-C
start_each-requires-send-C g c κs within = c.type_bounds.send-C

pub start_each-requires-send-J : goal.start_each-requires-send-J
start_each-requires-send-J g c κs within = c.type_bounds.send-J

pub start_each-requires-send-F : goal.start_each-requires-send-F
start_each-requires-send-F g c κs within = c.type_bounds.send-F

pub start_each-requires-send-R : goal.start_each-requires-send-R
start_each-requires-send-R g c κs within = c.type_bounds.send-R

pub start_each-requires-send-C-Msg : goal.start_each-requires-send-C-Msg
start_each-requires-send-C-Msg g c κs within = c.type_bounds.send-C-Msg

pub start_each-requires-send-C-Shape : goal.start_each-requires-send-C-Shape
start_each-requires-send-C-Shape g c κs within = c.type_bounds.send-C-Shape

pub start_each-requires-sync-R : goal.start_each-requires-sync-R
start_each-requires-sync-R g c κs within = c.type_bounds.sync-R

pub join-lefts-requires-room-W-Work : goal.join-lefts-requires-room-W-Work
join-lefts-requires-room-W-Work g c κs within = search (c.requires-raw.1.1.1.1.1.1.1.1.1.1.1.1.1.1.1.1, c.requires-raw.1.1.1.1.1.1.1.1.1.1.1.1.1.1.1.1.0)

pub join-lefts-requires-room-T-Destruct : goal.join-lefts-requires-room-T-Destruct
join-lefts-requires-room-T-Destruct g c κs within = search (c.requires-raw.1.1.1.1.1.1.1.1.1.1.1.1.1.1.1.1, c.requires-raw.1.1.1.1.1.1.1.1.1.1.1.1.1.1.1.1.0)

pub join-lefts-requires-room-W-Destruct : goal.join-lefts-requires-room-W-Destruct
join-lefts-requires-room-W-Destruct g c κs within = search (c.requires-raw.1.1.1.1.1.1.1.1.1.1.1.1.1.1.1.1, c.requires-raw.1.1.1.1.1.1.1.1.1.1.1.1.1.1.1.1.0)

pub put_back-ended-requires : goal.put_back-ended-requires
put_back-ended-requires g c =
    let linked : length c.args.stations.now.items ≤ length c.args.fates.items = omega (arith, c.if-len.false, c.len.ensures, c.len-2.ensures, c.args.stations.now.ok, c.args.fates.ok) in
    let many = left_many g.J.Job.terms g.C.Exclusion.core c.args.options _ _ c.args.fates.items _ c.join-lefts.result.0.items c.requires.each linked c.start_each.ensures.started c.join-lefts.ensures in
    let same = c.requires.each in
    let room = c.start_each.ensures.room in (
      search (c.requires-raw.1.1.1.1.1.1.1.1.1.1.1.1.1.1.1.1, c.requires-raw.1.1.1.1.1.1.1.1.1.1.1.1.1.1.1.1.0),
      (c.start_each.ensures.stations, (c.start_each.ensures.jobs, (omega (arith, many, room.0, c.args.stations.now.ok), omega (arith, many, same, room.1, c.args.jobs.now.ok)))),
    )

pub returns-in-Some-default-clause-err : goal.returns-in-Some-default-clause-err
returns-in-Some-default-clause-err g c = before_ends _ _ c.fault_of.ensures

pub returns-in-Some-default-clause-back : goal.returns-in-Some-default-clause-back
returns-in-Some-default-clause-back g c = (
  _,
  back_as g.J.Job.terms g.C.Exclusion.core c.args.options _ _ c.args.fates.items _ c.join-lefts.result.0.items c.requires.each
      (omega (arith, c.if-len.false, c.len.ensures, c.len-2.ensures, c.args.stations.now.ok, c.args.fates.ok)) c.start_each.ensures.started c.join-lefts.ensures _ _ c.put_back-ended.ensures.stations c.put_back-ended.ensures.jobs,
)

pub returns-in-None-Some : goal.returns-in-None-Some
returns-in-None-Some g c =
    let ends = map (λ (one : Station g.C.Exclusion.core × g.row.J.Denot × Ended). one.2) c.join-lefts.result.0.items in
    let back = back_as g.J.Job.terms g.C.Exclusion.core c.args.options _ _ c.args.fates.items _ c.join-lefts.result.0.items c.requires.each
    (omega (arith, c.if-len.false, c.len.ensures, c.len-2.ensures, c.args.stations.now.ok, c.args.fates.ok)) c.start_each.ensures.started c.join-lefts.ensures _ _ c.put_back-ended.ensures.stations c.put_back-ended.ensures.jobs in
    record { ok = tt; err = told_of c.in-None-Some.fault _ (record { ends = ends; told = subst (λ (f : Option RunFault). Tells f ends) c.in-None-Some.is-1 c.put_back-ended.ensures.told; back = back }); back = (ends, back) }

pub returns : goal.returns
returns g c =
    let ends = map (λ (one : Station g.C.Exclusion.core × g.row.J.Denot × Ended). one.2) c.join-lefts.result.0.items in
    let linked : length c.args.stations.now.items ≤ length c.args.fates.items = omega (arith, c.if-len.false, c.len.ensures, c.len-2.ensures, c.args.stations.now.ok, c.args.fates.ok) in
    let stations = c.put_back-ended.ensures.stations in let jobs = c.put_back-ended.ensures.jobs in record {
      ok = done_as g.J.Job.terms g.C.Exclusion.core c.args.options _ _ c.args.fates.items _ c.join-lefts.result.0.items c.requires.each linked c.start_each.ensures.started c.join-lefts.ensures _ _ stations jobs
          (subst (λ (f : Option RunFault). Tells f ends) c.in-None-None.is-1 c.put_back-ended.ensures.told);
      err = tt;
      back = (ends, back_as g.J.Job.terms g.C.Exclusion.core c.args.options _ _ c.args.fates.items _ c.join-lefts.result.0.items c.requires.each linked c.start_each.ensures.started c.join-lefts.ensures _ _ stations jobs);
    }
