use Rattle.std.proofs.Common.{rules, arith}
use Rattle.mx_stations.proofs.patience.has_mail_of_others.Goals as goal

pub has_mail_from-requires : goal.has_mail_from-requires
has_mail_from-requires g c =
    let is = c.in-Some.ensures.value in let low = c.loop-index-test.true in let count = c.nodes-index-end.ensures.value in
    (search rules, omega (arith, is, low, count))
