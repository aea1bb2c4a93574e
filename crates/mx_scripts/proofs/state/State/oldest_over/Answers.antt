use Rattle.std.proofs.Common.{◌∙◌, subst, sym}
use Rattle.mx_scripts.specs.UnderWay.{IsListed}
use Rattle.mx_scripts.specs.States.{RunState}
use Rattle.mx_scripts.proofs.OldestLemmas.{none_at_all, none_first, none_next}
use Rattle.mx_scripts.proofs.state.State.oldest_over.Goals as goal

pub loop-number-init : goal.loop-number-init
loop-number-init g c =
    let s = c.args.self.now in
    let ps = c.self.inside.under_way in
    let listed = subst (λ (x : RunState g.row.C.Denot g.row.C-Msg.Denot). IsListed x.cluster.sent x.fates.gone ps) c.self.view_is c.self.invariant in
    none_first s.fates s.cluster.sent ps listed c.args.scope.now c.args.wanted c.args.link c.first-number.result c.first-number.ensures

pub loop-number-preserved : goal.loop-number-preserved
loop-number-preserved g c =
    let s = c.args.self.now in
    let ps = c.self.inside.under_way in
    let listed = subst (λ (x : RunState g.row.C.Denot g.row.C-Msg.Denot). IsListed x.cluster.sent x.fates.gone ps) c.self.view_is c.self.invariant in
    none_next s.fates s.cluster.sent ps listed c.args.scope.now c.args.wanted c.args.link c.loop-number.number c.after-number.result c.loop-number.invariant (sym c.is_wanted.ensures ∙ c.if-is_wanted.false) c.after-number.ensures.between

pub returns : goal.returns
returns g c =
    let s = c.args.self.now in
    let ps = c.self.inside.under_way in
    let listed = subst (λ (x : RunState g.row.C.Denot g.row.C-Msg.Denot). IsListed x.cluster.sent x.fates.gone ps) c.self.view_is c.self.invariant in
    none_at_all s.fates s.cluster.sent ps listed c.args.scope.now c.args.wanted c.args.link c.loop-number.number c.end-end.result c.loop-number.invariant c.loop-number-test.false c.end-end.ensures
