use Rattle.std.proofs.Common.{◌≡◌, ◌∙◌, ◌++◌, ◌∷◌, [], ap, arith, length, rules}
use Rattle.std.proofs.lemmas.List.{length_push, nil_from_length}
use Rattle.mx_explorer.specs.Weather.{Climate}
use Rattle.mx_live.specs.Workers.{weather_of, worker_of}
use Rattle.mx_live.proofs.StationLemmas.{ended, first, moved}
use Rattle.mx_live.proofs.threads.start_all.Goals as goal

pub new-requires-room-W-Work : goal.new-requires-room-W-Work
new-requires-room-W-Work g c κs within = search (c.requires-raw.1.1.1.1.1.1, c.requires-raw.1.1.1.1.1.1.0)

pub new-requires-room-T-Destruct : goal.new-requires-room-T-Destruct
new-requires-room-T-Destruct g c κs within = search (c.requires-raw.1.1.1.1.1.1, c.requires-raw.1.1.1.1.1.1.0)

pub new-requires-room-W-Destruct : goal.new-requires-room-W-Destruct
new-requires-room-W-Destruct g c κs within = search (c.requires-raw.1.1.1.1.1.1, c.requires-raw.1.1.1.1.1.1.0)

pub drop-stations-requires-room-T-Destruct : goal.drop-stations-requires-room-T-Destruct
drop-stations-requires-room-T-Destruct g c κs within = search (c.requires-raw.1.1.1.1.1.1, c.requires-raw.1.1.1.1.1.1.0)

pub into_iter-station-iterator-requires-room-T-Destruct : goal.into_iter-station-iterator-requires-room-T-Destruct
into_iter-station-iterator-requires-room-T-Destruct g c κs within = search (c.requires-raw.1.1.1.1.1.1, c.requires-raw.1.1.1.1.1.1.0)

pub next-requires-room-T-Destruct : goal.next-requires-room-T-Destruct
next-requires-room-T-Destruct g c κs within = search (c.requires-raw.1.1.1.1.1.1, c.requires-raw.1.1.1.1.1.1.0)

pub start-requires-room-W-Work : goal.start-requires-room-W-Work
start-requires-room-W-Work g c κs within = search (c.requires-raw.1.1.1.1.1.1, c.requires-raw.1.1.1.1.1.1.0)

pub start-requires-room-T-Destruct : goal.start-requires-room-T-Destruct
start-requires-room-T-Destruct g c κs within = search (c.requires-raw.1.1.1.1.1.1, c.requires-raw.1.1.1.1.1.1.0)

pub start-requires-room-W-Destruct : goal.start-requires-room-W-Destruct
start-requires-room-W-Destruct g c κs within = search (c.requires-raw.1.1.1.1.1.1, c.requires-raw.1.1.1.1.1.1.0)

pub drop-station-iterator-requires-room-T-Destruct : goal.drop-station-iterator-requires-room-T-Destruct
drop-station-iterator-requires-room-T-Destruct g c κs within = search (c.requires-raw.1.1.1.1.1.1, c.requires-raw.1.1.1.1.1.1.0)

pub node-requires : goal.node-requires
node-requires g c = search (c.requires-raw.1.1.1.1.1.1, c.requires-raw.1.1.1.1.1.1.0)

pub loop-station-init : goal.loop-station-init
loop-station-init g c =
    let works = ap (λ group. group.works) c.in_ok-group.ensures in
    let room = ap (λ group. group.room) c.in_ok-group.ensures in
    let rest = c.into_iter-station-iterator.ensures.into_iter_gives.0 in
    let none = ap length works in
    let many = ap length rest in record {
      fit = omega (arith, none, room, many, c.len.ensures, c.args.stations.ok);
      all = first (worker_of c.args.orders) _ _ _ works rest;
    }

pub loop-station-preserved : goal.loop-station-preserved
loop-station-preserved g c =
    let works : c.start.new.self.works ≡ c.loop-station.group.works ++ worker_of c.args.orders c.in-Some.station ∷ [] =
    ap (λ group. group.works) c.start.ensures
    ∙ ap (λ (f : Climate). c.loop-station.group.works ++ record { station = c.in-Some.station; orders = c.args.orders; fates = f } ∷ []) (c.weather_at-fates.ensures ∙ ap (λ n. weather_of c.args.orders.seed n) c.node.ensures.value) in
    let room = ap (λ group. group.room) c.start.ensures in
    let rest = c.in-Some.ensures.steps.0 in
    let fewer = ap length rest in
    let more = ap length works in
    let pushed = length_push c.loop-station.group.works (worker_of c.args.orders c.in-Some.station) in
    let fit = c.loop-station.invariant.fit in record {
      fit = omega (arith, fit, fewer, more, pushed, room);
      all = moved (worker_of c.args.orders) _ _ _ _ _ _ works rest c.loop-station.invariant.all;
    }

pub start-requires-clause-room : goal.start-requires-clause-room
start-requires-clause-room g c κs within =
    let fewer = ap length c.in-Some.ensures.steps.0 in
    let fit = c.loop-station.invariant.fit in
    omega (arith, fit, fewer)

pub returns : goal.returns
returns g c = ended (worker_of c.args.orders) _ _ _ (nil_from_length _ (search rules)) c.loop-station.invariant.all
