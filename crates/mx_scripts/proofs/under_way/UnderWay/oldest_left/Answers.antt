use Rattle.std.proofs.Common.{◌+◌, arith}
use Rattle.mx_scripts.proofs.UnderWayLemmas.{passed_next}
use Rattle.mx_scripts.proofs.under_way.UnderWay.oldest_left.Goals as goal

pub loop-number-init : goal.loop-number-init
loop-number-init c = rw (← c.self.view_is) c.self.invariant.old

pub loop-number-preserved : goal.loop-number-preserved
loop-number-preserved c = λ link.
    let number = c.loop-number.number in
    passed_next link number (number + 1) c.args.self.now (c.loop-number.invariant link) (c.is_gone.ensures.gone c.loop-number-test.true link) (λ k lt less. absurd (omega (arith, lt, less)))
