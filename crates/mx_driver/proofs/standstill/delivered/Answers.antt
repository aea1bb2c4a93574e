use Rattle.std.proofs.Common.{◌∙◌}
use Rattle.mx_driver.proofs.StandstillLemmas.{delivered_end, delivered_more, unmarked}
use Rattle.mx_driver.proofs.standstill.delivered.Goals as goal

pub loop-entry-init : goal.loop-entry-init
loop-entry-init c = c.in_ok-marks.ensures.items_if_clones_equal (λ y is. is) ∙ unmarked c.args.sent

pub loop-entry-preserved : goal.loop-entry-preserved
loop-entry-preserved c =
    delivered_more c.args.trace.now c.args.sent c.loop-entry.entry-index c.entry-item.result c.delivered_by.result c.loop-entry.marks.items c.mark.new.marks.items c.loop-entry-test.true
    c.entry-item.is c.delivered_by.ensures c.loop-entry.invariant c.mark.ensures

pub returns : goal.returns
returns c = delivered_end c.args.trace.now c.args.sent c.loop-entry.entry-index c.loop-entry.marks.items c.loop-entry-test.false c.loop-entry.invariant
