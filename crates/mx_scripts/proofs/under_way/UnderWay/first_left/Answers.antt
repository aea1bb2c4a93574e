use Rattle.mx_scripts.proofs.UnderWayLemmas.{passed_next}
use Rattle.mx_scripts.proofs.under_way.UnderWay.first_left.Goals as goal

pub loop-number-preserved : goal.loop-number-preserved
loop-number-preserved c =
    passed_next c.args.link c.loop-number.number c.after-number.result c.args.self.now c.loop-number.invariant (c.is_gone.ensures.gone c.if-is_gone.true c.args.link) c.after-number.ensures.between
