use Rattle.std.proofs.Common.{◌∙◌, ◌++◌, ◌∷◌, [], ap, append-nil, append_assoc, arith, length, refl, sym}
use Rattle.std.proofs.lemmas.List.{length_push, nil_from_length}
use Rattle.mx_stations.specs.Turns.{Station}
use Rattle.mx_jobs.specs.declared.threads.Worker.{Worker}
use Rattle.mx_jobs.specs.Posted.{workers}
use Rattle.mx_jobs.proofs.Each.{ready_on, when_none}
use Rattle.mx_jobs.proofs.Promised.{next_worker}
use Rattle.mx_jobs.proofs.threads.start_each.Goals as goal

pub loop-station-init : goal.loop-station-init
loop-station-init g c =
    let none = ap length c.requires.none in record {
      ready = c.requires.ready;
      each = c.requires.each;
      linked = c.requires.linked;
      fit = omega (arith, none, c.requires.fit);
      all = ap (λ ws. ws ++ workers c.args.options c.args.stations.now.items c.args.jobs.now.items c.args.fates.now.items) c.requires.none;
      stations_room = refl;
      jobs_room = refl;
    }

pub take_next-requires-clause-each : goal.take_next-requires-clause-each
take_next-requires-clause-each g c = c.loop-station.invariant.each

pub take_next-requires-clause-linked : goal.take_next-requires-clause-linked
take_next-requires-clause-linked g c = c.loop-station.invariant.linked

pub take_next-requires-room-S-Destruct : goal.take_next-requires-room-S-Destruct
take_next-requires-room-S-Destruct g c κs within = search (c.requires-raw.1.1.1.1.1.1.1.1.1.1.1.1.1.1.1.1, c.requires-raw.1.1.1.1.1.1.1.1.1.1.1.1.1.1.1.1.0)

pub start-requires-room-W-Work : goal.start-requires-room-W-Work
start-requires-room-W-Work g c κs within = search (c.requires-raw.1.1.1.1.1.1.1.1.1.1.1.1.1.1.1.1, c.requires-raw.1.1.1.1.1.1.1.1.1.1.1.1.1.1.1.1.0)

pub start-requires-room-T-Destruct : goal.start-requires-room-T-Destruct
start-requires-room-T-Destruct g c κs within = search (c.requires-raw.1.1.1.1.1.1.1.1.1.1.1.1.1.1.1.1, c.requires-raw.1.1.1.1.1.1.1.1.1.1.1.1.1.1.1.1.0)

pub start-requires-room-W-Destruct : goal.start-requires-room-W-Destruct
start-requires-room-W-Destruct g c κs within = search (c.requires-raw.1.1.1.1.1.1.1.1.1.1.1.1.1.1.1.1, c.requires-raw.1.1.1.1.1.1.1.1.1.1.1.1.1.1.1.1.0)

pub start-requires-clause-able : goal.start-requires-clause-able
start-requires-clause-able g c κs within = (ready_on g.J.Job.ready _ _ _ c.in-Some.ensures.job c.loop-station.invariant.ready).0

pub start-requires-clause-room : goal.start-requires-clause-room
start-requires-clause-room g c κs within =
    let s = ap length c.in-Some.ensures.station in
    let fit = c.loop-station.invariant.fit in
    omega (arith, fit, s)

pub loop-station-smaller : goal.loop-station-smaller
loop-station-smaller g c = let s = ap length c.in-Some.ensures.station in omega (arith, s)

pub loop-station-preserved : goal.loop-station-preserved
loop-station-preserved g c =
    let i = c.loop-station.invariant in
    let s = ap length c.in-Some.ensures.station in
    let j = ap length c.in-Some.ensures.job in
    let f = ap length c.in-Some.ensures.fates in
    let grown = ap (λ group. group.works) c.start.ensures in
    let room = ap (λ group. group.room) c.start.ensures in
    let more = ap length grown in
    let worker : Worker (Station g.C.Exclusion.core) g.row.J.Denot g.row.F.Denot = record { station = c.in-Some.station; job = c.in-Some.job; fates = c.in-Some.own; options = c.args.options } in
    let pushed = length_push c.loop-station.group.works worker in
    let each = i.each in
    let linked = i.linked in
    let fit = i.fit in record {
      ready = (ready_on g.J.Job.ready _ _ _ c.in-Some.ensures.job i.ready).1;
      each = omega (arith, each, s, j);
      linked = omega (arith, linked, s, f);
      fit = omega (arith, fit, s, more, pushed, room);
      all =
          ap (λ ws. ws ++ workers c.args.options c.take_next.new.stations.items c.take_next.new.jobs.items c.take_next.new.fates.items) grown
          ∙ append_assoc c.loop-station.group.works (worker ∷ []) (workers c.args.options c.take_next.new.stations.items c.take_next.new.jobs.items c.take_next.new.fates.items)
          ∙ ap (λ ws. c.loop-station.group.works ++ ws) (sym (next_worker c.args.options _ _ _ _ _ _ _ _ _ c.in-Some.ensures.station c.in-Some.ensures.job c.in-Some.ensures.fates))
          ∙ i.all;
      stations_room = c.take_next.ensures.room.0 ∙ i.stations_room;
      jobs_room = c.take_next.ensures.room.1 ∙ i.jobs_room;
    }

pub returns-clause-started : goal.returns-clause-started
returns-clause-started g c =
    let kept = when_none c.take_next.result c.in_default.not-Some c.take_next.ensures.none in
    sym (append-nil c.loop-station.group.works)
    ∙ ap (λ ss. c.loop-station.group.works ++ workers c.args.options ss c.loop-station.jobs.items c.loop-station.fates.items) (sym kept.0)
    ∙ c.loop-station.invariant.all

pub returns-clause-stations : goal.returns-clause-stations
returns-clause-stations g c =
    let kept = when_none c.take_next.result c.in_default.not-Some c.take_next.ensures.none in
    kept.1 ∙ kept.0

pub returns-clause-jobs : goal.returns-clause-jobs
returns-clause-jobs g c =
    let kept = when_none c.take_next.result c.in_default.not-Some c.take_next.ensures.none in
    let none = ap length kept.0 in
    let each = c.loop-station.invariant.each in
    kept.2 ∙ nil_from_length _ (omega (arith, none, each))

pub returns-clause-room : goal.returns-clause-room
returns-clause-room g c = (c.take_next.ensures.room.0 ∙ c.loop-station.invariant.stations_room, c.take_next.ensures.room.1 ∙ c.loop-station.invariant.jobs_room)
