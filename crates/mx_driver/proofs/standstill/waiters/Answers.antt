use Rattle.std.proofs.Common.{◌∙◌, ◌++◌, List, ap, sym}
use Rattle.mx_format.specs.StuckTexts.{WaiterState}
use Rattle.mx_driver.specs.Standstill.{waiters_from}
use Rattle.mx_driver.proofs.StandstillLemmas.{waiters_end, waiters_more}
use Rattle.mx_driver.proofs.standstill.waiters.Goals as goal

pub loop-index-init : goal.loop-index-init
loop-index-init g c =
    let all = waiters_from g.C.Exclusion.core g.C.Knowledge.knows 0 c.args.members.now in
    ap (λ (ws : List WaiterState). ws ++ all) c.new-waiters.ensures.items

pub loop-index-preserved : goal.loop-index-preserved
loop-index-preserved g c =
    sym (waiters_more g.C.Exclusion.core g.C.Knowledge.knows c.args.members.now _ _ c.index-members-index.result _ _ c.loop-index-test.true c.index-members-index.is c.node_at.ensures c.in_ok-add_waiter.ensures)
    ∙ c.loop-index.invariant

pub returns : goal.returns
returns g c =
    sym (waiters_end g.C.Exclusion.core g.C.Knowledge.knows c.args.members.now c.loop-index.index c.loop-index.waiters.items c.loop-index-test.false) ∙ c.loop-index.invariant
