use Rattle.std.proofs.Common.{◌∙◌, ◌++◌, ap, string_bytes, sym}
use Rattle.mx_format.specs.Lines.{texts_from}
use Rattle.mx_format.proofs.Places.{item_more, place_end}
use Rattle.mx_driver.specs.Shown.{shown_member}
use Rattle.mx_driver.proofs.view.View.add_nodes.Goals as goal

pub loop-index-preserved : goal.loop-index-preserved
loop-index-preserved g c =
    c.loop-index.invariant
    ∙ item_more (shown_member c.args.plan.now c.args.self.now g.C.Exclusion.core g.C.Knowledge.knows) _ _ _ c.member-item.result _ _ c.loop-index-test.true c.member-item.is c.node_at.ensures c.in_ok-add_member.ensures

pub returns : goal.returns
returns g c =
    let lines = shown_member c.args.plan.now c.args.self.now g.C.Exclusion.core g.C.Knowledge.knows in
    sym (c.loop-index.invariant ∙ place_end lines c.members-member-items.result.now c.loop-index.index (string_bytes c.loop-index.text) c.loop-index-test.false)
    ∙ ap (λ members. string_bytes c.args.text.now ++ texts_from lines 0 members) c.members-member-items.ensures
