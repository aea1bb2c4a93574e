use Rattle.std.proofs.Common.{◌∙◌, ◌%◌, ℕ, ap}
use Rattle.rand_pcg.specs.Lcg.{Lcg}
use Rattle.mx_explorer.specs.Drawn.{word}
use Rattle.mx_draw.specs.Walk.{actor, node_act}
use Rattle.mx_draw.proofs.own_actions.act.Goals as goal

pub returns-clause-event : goal.returns-clause-event
returns-clause-event g c =
    let core = g.C.Exclusion.core in
    let members = c.args.cluster.now.members in
    let n = c.args.nodes in
    c.act_at.ensures.event
    ∙ ap (λ (i : ℕ). (node_act core members n c.args.registers c.args.is_calm i c.draw_node-any.new.words).0)
    (c.actor-node.ensures ∙ ap (λ (a : ℕ). actor core members n c.args.chance a) c.draw_node-any.ensures.value)
    ∙ ap (λ (w : Lcg). (node_act core members n c.args.registers c.args.is_calm (actor core members n c.args.chance (word c.args.words.now % n)) w).0) c.draw_node-any.ensures.next

pub returns-clause-next : goal.returns-clause-next
returns-clause-next g c =
    let core = g.C.Exclusion.core in
    let members = c.args.cluster.now.members in
    let n = c.args.nodes in
    c.act_at.ensures.next
    ∙ ap (λ (i : ℕ). (node_act core members n c.args.registers c.args.is_calm i c.draw_node-any.new.words).1)
    (c.actor-node.ensures ∙ ap (λ (a : ℕ). actor core members n c.args.chance a) c.draw_node-any.ensures.value)
    ∙ ap (λ (w : Lcg). (node_act core members n c.args.registers c.args.is_calm (actor core members n c.args.chance (word c.args.words.now % n)) w).1) c.draw_node-any.ensures.next
