use Rattle.mx_draw.proofs.ParcelLemmas.{oldest_end, oldest_more}
use Rattle.mx_draw.proofs.under_way.oldest_on.Goals as goal

pub loop-other-preserved : goal.loop-other-preserved
loop-other-preserved g c =
    oldest_more c.args.cluster.now.sent c.args.from c.args.to c.args.flying.now c.loop-other.other-index _ c.loop-other.oldest c.older_of-oldest.result _
    c.loop-other-test.true c.older_of-oldest.ensures c.loop-other.invariant

pub returns : goal.returns
returns g c = oldest_end c.args.cluster.now.sent c.args.from c.args.to c.args.flying.now c.loop-other.other-index c.loop-other.oldest _ c.loop-other-test.false c.loop-other.invariant
