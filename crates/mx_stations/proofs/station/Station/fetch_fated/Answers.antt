use Rattle.std.proofs.Common.{sym, ap, ◌∙◌, subst, refl, ℕ, ◌<◌}
use Rattle.std.specs.Arc.{arc_value}
use Rattle.mx_stations.specs.Links.{slot_at}
use Rattle.mx_stations.specs.Posts.{sent_in, shown, Waits}
use Rattle.mx_stations.proofs.Posts.{idle, match_none, same_seat}
use Rattle.mx_stations.proofs.Crossing.{fated, fated_seat, finds_none, has_taken}
use Rattle.mx_stations.proofs.station.Station.fetch_fated.Goals as goal

pub grab_filled-requires-clause-link : goal.grab_filled-requires-clause-link
grab_filled-requires-clause-link g c =
    let n = ap (λ f. f.nodes) (sym c.deref-field.ensures) in
    (c.self.invariant.0 ∙ sym (ap (λ f. f.board.shared.table_id) c.deref-field.ensures), (subst (λ (k : ℕ). c.args.from < k) (ap (λ s. s.nodes) (sym c.self.view_is) ∙ n) c.requires.within, subst (λ (k : ℕ). c.self.inside.node < k) n c.self.invariant.2))

pub grab_filled-requires-clause-idle : goal.grab_filled-requires-clause-idle
grab_filled-requires-clause-idle g c = idle _ _ _ _ _ c.self.invariant.1

pub invariant_of-self : goal.invariant_of-self
invariant_of-self g c =
    let i = c.self.invariant in let n = c.in_err-index.ensures in let same = n.none.0 in
    (n.same.0 ∙ i.0, same_seat _ _ _ _ _ i.1 _ same, i.2, subst (λ m. Waits (arc_value c.self.inside.field).nodes (sent_in m.0) c.self.inside.waiting.items) (sym same) i.3)

pub returns-in_err-index-clause-fated : goal.returns-in_err-index-clause-fated
returns-in_err-index-clause-fated g c =
    let i = c.self.invariant in let n = c.in_err-index.ensures in
    let at : ℕ → ℕ → ℕ = λ nodes u. slot_at nodes c.args.from c.self.inside.node u in
    match_none _ c.from_residual.result c.from_residual.ensures
    (finds_none _ _ _ _ _ i.1 (at c.deref-field.result.now.nodes) _ _ _ _ _ _ _ c.self.view_is n.same.0 c.requires.empty (λ u. ap (λ f. at f.nodes u) c.deref-field.ensures) n.none.0 n.none.1)

pub lift_fated-fate-requires-clause-link : goal.lift_fated-fate-requires-clause-link
lift_fated-fate-requires-clause-link g c =
    let n = ap (λ f. f.nodes) (sym c.deref-field.ensures) in
    (c.in_ok-index.ensures.same.0 ∙ c.self.invariant.0 ∙ sym (ap (λ f. f.board.shared.table_id) c.deref-field.ensures), (subst (λ (k : ℕ). c.args.from < k) (ap (λ s. s.nodes) (sym c.self.view_is) ∙ n) c.requires.within, subst (λ (k : ℕ). c.self.inside.node < k) n c.self.invariant.2))

pub lift_fated-fate-requires-clause-index : goal.lift_fated-fate-requires-clause-index
lift_fated-fate-requires-clause-index g c = c.in_ok-index.ensures.some.0

pub lift_fated-fate-requires-clause-taken : goal.lift_fated-fate-requires-clause-taken
lift_fated-fate-requires-clause-taken g c =
    let s = c.self.inside in let took = c.in_ok-index.ensures.some.1 in
    (shown s.node s.member s.hand s.receipts.items s.seat.me.0, took.2.0, refl, has_taken _ _ _ _ _ c.self.invariant.1 _ _ _ took)

pub invariant_of-self-2 : goal.invariant_of-self-2
invariant_of-self-2 g c =
    let i = c.self.invariant in let l = c.lift_fated-fate.ensures in let n = c.in_ok-index.ensures in let s = c.self.inside in
    let now = l.fated (shown s.node s.member s.hand s.receipts.items s.seat.me.0) n.some.1.2.0 (has_taken _ _ _ _ _ i.1 _ _ _ n.some.1) in
    let f = fated_seat _ _ _ _ _ i.1 _ c.args.from _ _ _ now.1 in
    (l.same.0 ∙ n.same.0 ∙ i.0, f.0, i.2, subst (λ z. Waits (arc_value c.self.inside.field).nodes z c.self.inside.waiting.items) (sym f.1) i.3)

pub returns-clause-fated : goal.returns-clause-fated
returns-clause-fated g c =
    let i = c.self.invariant in let l = c.lift_fated-fate.ensures in let n = c.in_ok-index.ensures in let s = c.self.inside in
    let now = l.fated (shown s.node s.member s.hand s.receipts.items s.seat.me.0) n.some.1.2.0 (has_taken _ _ _ _ _ i.1 _ _ _ n.some.1) in
    fated _ _ _ _ _ i.1 c.lift_fated-fate.result _ c.args.from _ _ _ _ _ _ _ _ _ c.self.view_is (l.same.0 ∙ n.same.0) c.requires.empty (ap (λ f. slot_at f.nodes c.args.from c.self.inside.node c.in_ok-index.index) c.deref-field.ensures) n.some.0 now.1 now.0
