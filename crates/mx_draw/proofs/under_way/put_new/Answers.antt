use Rattle.std.proofs.Common.{◌∙◌, sym}
use Rattle.mx_draw.proofs.ParcelLemmas.{put_end, put_more}
use Rattle.mx_draw.proofs.under_way.put_new.Goals as goal

pub loop-number-preserved : goal.loop-number-preserved
loop-number-preserved c =
    put_more c.loop-number.flying.items _ c.loop-number.number c.args.sent c.loop-number-test.true c.in_ok-push.ensures.items ∙ c.loop-number.invariant

pub returns : goal.returns
returns c = sym (put_end c.loop-number.flying.items c.loop-number.number c.args.sent c.loop-number-test.false) ∙ c.loop-number.invariant
