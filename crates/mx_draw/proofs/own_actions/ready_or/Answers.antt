use Rattle.std.proofs.Common.{◌≡◌, ◌∙◌, ◌+◌, ◌%◌, ℕ, true, false, ap, arith, sym}
use Rattle.std.proofs.Math.Nat.{mod-lt}
use Rattle.mx_draw.specs.Walk.{is_ready_at}
use Rattle.mx_draw.proofs.StepLemmas.{ready_end, ready_more, ready_there}
use Rattle.mx_draw.proofs.own_actions.ready_or.Goals as goal

pub get-requires : goal.get-requires
get-requires g c = omega arith

pub is_ready_at-requires : goal.is_ready_at-requires
is_ready_at-requires g c = omega arith

pub node_at-node-requires : goal.node_at-node-requires
node_at-node-requires g c =
    let small = mod-lt (c.get.result + c.loop-offset.offset) c.requires.0 in
    omega (arith, small, c.requires.1)

pub returns-then-is_ready_at : goal.returns-then-is_ready_at
returns-then-is_ready_at g c =
    let core = g.C.Exclusion.core in
    let members = c.args.cluster.now.members in
    let at : c.node_at-node.result ≡ (c.args.any + c.loop-offset.offset) % c.args.nodes =
    c.node_at-node.ensures ∙ ap (λ (k : ℕ). (k + c.loop-offset.offset) % c.args.nodes) c.get.ensures.value in
    let there : is_ready_at core members ((c.args.any + c.loop-offset.offset) % c.args.nodes) ≡ true =
    ap (is_ready_at core members) (sym at) ∙ sym c.is_ready_at.ensures ∙ c.if-is_ready_at.true in
    at ∙ ready_there core members c.args.nodes c.args.any c.loop-offset.offset c.loop-offset-test.true there ∙ c.loop-offset.invariant

pub loop-offset-preserved : goal.loop-offset-preserved
loop-offset-preserved g c =
    let core = g.C.Exclusion.core in
    let members = c.args.cluster.now.members in
    let at : c.node_at-node.result ≡ (c.args.any + c.loop-offset.offset) % c.args.nodes =
    c.node_at-node.ensures ∙ ap (λ (k : ℕ). (k + c.loop-offset.offset) % c.args.nodes) c.get.ensures.value in
    let out : is_ready_at core members ((c.args.any + c.loop-offset.offset) % c.args.nodes) ≡ false =
    ap (is_ready_at core members) (sym at) ∙ sym c.is_ready_at.ensures ∙ c.if-is_ready_at.false in
    ready_more core members c.args.nodes c.args.any c.loop-offset.offset c.loop-offset-test.true out ∙ c.loop-offset.invariant

pub returns : goal.returns
returns g c =
    ready_end g.C.Exclusion.core c.args.cluster.now.members c.args.nodes c.args.any c.loop-offset.offset c.loop-offset-test.false ∙ c.loop-offset.invariant
