use Rattle.std.proofs.Common.{rules, inl, refl, sym, ap, ◌∙◌, subst}
use Rattle.std.specs.Arc.{arc_value}
use Rattle.mx_stamps.specs.Lists.{IsIn}
use Rattle.mx_stations.specs.Posts.{DeliversAs, Waits, post, sent_in, shown}
use Rattle.mx_stations.specs.Turns.{HoldsUnknown}
use Rattle.mx_stations.proofs.Posts.{on_err, same_seat}
use Rattle.mx_stations.proofs.Tells.{can_take}
use Rattle.mx_stations.proofs.station.Station.deliver.Goals as goal

pub see-requires : goal.see-requires
see-requires g c = record { table = c.self.invariant.0 ∙ sym (ap (λ f. f.board.shared.table_id) c.deref.ensures); within = c.deref.result.now.some }

pub hand_over-requires : goal.hand_over-requires
hand_over-requires g c =
    let i = c.self.invariant in let held = c.in-Some._held in let p = c.self.inside in
    let me = shown p.node p.member p.hand p.receipts.items p.seat.me.0 in
    (search rules, (held.0, held.1, c.in-Some.is, can_take g.C.Exclusion.core g.C.Exclusion.Good _ _ me (held.0, held.1) c.see.ensures.seen.together (subst (λ m. IsIn me m.0) (sym i.1) (inl refl)) c.in-Some.is))

pub invariant_of-self : goal.invariant_of-self
invariant_of-self g c =
    let i = c.self.invariant in let l = c.see.ensures in let p = c.self.inside in
    (l.same.0 ∙ i.0, same_seat _ _ _ _ _ i.1 _ l.same.1, i.2, subst (λ m. Waits (arc_value p.field).nodes (sent_in m.0) p.waiting.items) (sym l.same.1) i.3)

pub returns-in_err-hand_over-clause-held : goal.returns-in_err-hand_over-clause-held
returns-in_err-hand_over-clause-held g c =
    let l = c.see.ensures in let p = c.self.inside in
    let view = (λ j. post (l.same.0 j) (arc_value p.field).nodes (shown p.node p.member p.hand p.receipts.items (l.same.1 j).0) p.waiting.items) ∙ c.self.view_is in
    on_err c.from_residual.result _ (subst (λ s. HoldsUnknown g.C.Exclusion.core s) view c.in_err-hand_over.ensures.held)

pub returns-in_err-hand_over-clause-memory : goal.returns-in_err-hand_over-clause-memory
returns-in_err-hand_over-clause-memory g c =
    let l = c.see.ensures in let p = c.self.inside in
    on_err c.from_residual.result _ (c.in_err-hand_over.ensures.memory ∙ (λ j. post (l.same.0 j) (arc_value p.field).nodes (shown p.node p.member p.hand p.receipts.items (l.same.1 j).0) p.waiting.items) ∙ c.self.view_is)

pub returns-clause-delivered : goal.returns-clause-delivered
returns-clause-delivered g c =
    let l = c.see.ensures in let p = c.self.inside in
    let view = (λ j. post (l.same.0 j) (arc_value p.field).nodes (shown p.node p.member p.hand p.receipts.items (l.same.1 j).0) p.waiting.items) ∙ c.self.view_is in
    subst (λ s. DeliversAs g.C.Exclusion.core c.args.again s c.hand_over.new.self) view c.in_ok-hand_over.ensures.delivered
