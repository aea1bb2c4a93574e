use Rattle.std.proofs.Common.{◌≡◌, length, arith}
use Rattle.mx_stations.proofs.Returning.{come_back}
use Rattle.mx_tests.proofs.settled_stations.worked.Goals as goal

pub are_gathered-requires : goal.are_gathered-requires
are_gathered-requires g c =
    let went = c.args.stations in let back = c.in_ok-back in
    let long : length back.back.items ≡ length went.items = omega (arith, back.back.ok.0, went.ok.0, back.ensures.len) in
    (search (c.requires-raw), come_back went.items back.back.items long (λ k s low. let one = (back.ensures.each k s low).1 in (one.job, one.job_is s, one.call.met)) c.requires)
