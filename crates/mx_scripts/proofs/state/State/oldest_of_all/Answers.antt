use Rattle.std.proofs.Common.{◌∙◌, slice_get, subst, sym}
use Rattle.mx_lines.specs.declared.orders.Scope.TheVariants.{All}
use Rattle.mx_scripts.specs.Fates.{IsBelow, is_wanted}
use Rattle.mx_scripts.specs.UnderWay.{IsListed}
use Rattle.mx_scripts.specs.States.{RunState}
use Rattle.mx_scripts.proofs.OldestLemmas.{first_of_oldest, none_below_first, none_of_oldest, rest_of_links}
use Rattle.mx_scripts.proofs.state.State.oldest_of_all.Goals as goal

pub returns-then-is_wanted-clause-some : goal.returns-then-is_wanted-clause-some
returns-then-is_wanted-clause-some g c =
    let s = c.args.self.now in
    let ps = c.self.inside.under_way in
    let listed = subst (λ (x : RunState g.row.C.Denot g.row.C-Msg.Denot). IsListed x.cluster.sent x.fates.gone ps) c.self.view_is c.self.invariant in
    (sym c.is_wanted.ensures ∙ c.if-is_wanted.true, none_below_first s.fates s.cluster.sent ps listed All c.args.wanted c.oldest-number.result c.oldest-number.ensures.below)

pub returns-clause-some : goal.returns-clause-some
returns-clause-some g c =
    let s = c.args.self.now in
    let ps = c.self.inside.under_way in
    let listed = subst (λ (x : RunState g.row.C.Denot g.row.C-Msg.Denot). IsListed x.cluster.sent x.fates.gone ps) c.self.view_is c.self.invariant in
    first_of_oldest (λ k. IsBelow 441 (slice_get s.cluster.sent k)) (is_wanted s.fates s.cluster.sent All c.args.wanted)
    (rest_of_links s.fates s.cluster.sent ps listed All c.args.wanted c.oldest-number.ensures.links) c.oldest_of_links.result c.oldest_of_links.ensures

pub returns-clause-none : goal.returns-clause-none
returns-clause-none g c =
    let s = c.args.self.now in
    let ps = c.self.inside.under_way in
    let listed = subst (λ (x : RunState g.row.C.Denot g.row.C-Msg.Denot). IsListed x.cluster.sent x.fates.gone ps) c.self.view_is c.self.invariant in
    none_of_oldest (λ k. IsBelow 441 (slice_get s.cluster.sent k)) (is_wanted s.fates s.cluster.sent All c.args.wanted)
    (rest_of_links s.fates s.cluster.sent ps listed All c.args.wanted c.oldest-number.ensures.links) c.oldest_of_links.result c.oldest_of_links.ensures
