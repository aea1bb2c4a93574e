use Rattle.std.proofs.Common.{◌≡◌, ◌<◌, ◌+◌, arith, length}
use Rattle.mx_scripts.proofs.under_way.UnderWay.grow.Goals as goal

pub returns-in_err-add_next-clause-kept : goal.returns-in_err-add_next-clause-kept
returns-in_err-add_next-clause-kept g c = λ gone old. c.add_next.ensures.kept gone (c.loop-number.invariant.kept gone old)

pub loop-number-preserved : goal.loop-number-preserved
loop-number-preserved g c =
    let count = c.loop-number.invariant.count in
    let lt : length c.loop-number.self < length c.args.cluster.now.sent = omega (arith, count) in
    let more : length c.add_next.new.self ≡ length c.loop-number.self + 1 = c.in_ok-add_next.ensures.more lt in
    record {
      count = omega (arith, count, more);
      kept = λ gone old. c.add_next.ensures.kept gone (c.loop-number.invariant.kept gone old);
    }
