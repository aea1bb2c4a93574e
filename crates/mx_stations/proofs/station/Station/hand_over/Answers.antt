use Rattle.std.proofs.Common.{rules, inl, inr, sym, ap, ◌∙◌, subst, ◌≡◌, [], ◌∷◌, append-nil}
use Rattle.std.specs.Arc.{arc_value}
use Rattle.mx_member.specs.declared.acts.Act.TheVariants.{Deliver}
use Rattle.mx_member.specs.Member.{BringsUnknown}
use Rattle.mx_stations.specs.Posts.{after_act, left_in, post, shown}
use Rattle.mx_stations.specs.Running.{GoToNodes}
use Rattle.mx_stations.proofs.Crossing.{held_takes}
use Rattle.mx_stations.proofs.Posts.{acted_seat, acted_waits, happens, keeps_left, on_err, ready}
use Rattle.mx_stations.proofs.station.Station.hand_over.Goals as goal

pub clear-requires : goal.clear-requires
clear-requires g c = search rules

pub receive-requires : goal.receive-requires
receive-requires g c = (search rules, (search rules, c.clear.ensures))

pub invariant_of-self : goal.invariant_of-self
invariant_of-self g c =
    let i = c.self.invariant in let p = c.self.inside in
    (i.0, subst (λ y. p.seat.me ≡ (shown p.node y p.hand p.receipts.items p.seat.me.0 ∷ [], [])) (sym c.in_err-receive.ensures.err) i.1, i.2, i.3)

pub returns-in_err-receive-clause-memory : goal.returns-in_err-receive-clause-memory
returns-in_err-receive-clause-memory g c =
    let p = c.self.inside in
    on_err c.from_residual.result _ (ap (λ y. post p.seat.table_id (arc_value p.field).nodes (shown p.node y p.hand p.receipts.items p.seat.me.0) p.waiting.items) c.in_err-receive.ensures.err ∙ c.self.view_is)

pub returns-in_err-receive-clause-held : goal.returns-in_err-receive-clause-held
returns-in_err-receive-clause-held g c =
    let held = c.in-Some.held in let e = c.in_err-receive.ensures in
    let can = held_takes _ _ c.args.self.now held (ap (λ s. s.me.member) (sym c.self.view_is)) (ap (λ s. s.me.hand) (sym c.self.view_is)) c.in-Some.is c.requires in
    let brings : BringsUnknown held.1 c.self.inside.member.journal = elim (e.taken.1 can) [ inl bad ↦ cc | inr is ↦ e.memory is ] in
    on_err c.from_residual.result _ (held.0, held.1, ap (λ s. s.me.hand) (sym c.self.view_is) ∙ c.in-Some.is, subst (λ s. BringsUnknown held.1 s.me.member.journal) c.self.view_is brings)

pub act-requires : goal.act-requires
act-requires g c =
    let i = c.self.invariant in let a = c.in_ok-receive.ensures in
    let same = i.0 ∙ sym (ap (λ f. f.board.shared.table_id) c.deref.ensures) in
    (search rules, (search rules, ready g.C.Exclusion.core _ _ _ _ _ i.1 _ _ _ _ (Deliver c.in-Some.held.0 c.in-Some.held.1) _ _ _ _ same (ap (λ f. f.nodes) c.deref.ensures) i.2 c.in-Some.is (keeps_left c.args.again _ _ c.let_go.ensures) a.state a.letters (sym (append-nil _))))

pub invariant_of-self-2 : goal.invariant_of-self-2
invariant_of-self-2 g c =
    let i = c.self.invariant in let n = c.act.ensures in
    (n.same.0 ∙ i.0, (acted_seat _ _ c.self.inside.hand _ _ i.1 _ _ _ _ _ n.view).0, i.2, acted_waits _ _ c.self.inside.hand _ _ i.1 _ _ _ _ _ _ _ _ n.view i.3 (subst (λ f. GoToNodes f.nodes c.act.new.seat.me.0) c.deref.ensures n.sent) c.store_up.ensures)

pub returns-clause-delivered : goal.returns-clause-delivered
returns-clause-delivered g c =
    let i = c.self.invariant in let n = c.act.ensures in let a = c.in_ok-receive.ensures in (
      c.in-Some.held.0,
      c.in-Some.held.1,
      ap (λ s. s.me.hand) (sym c.self.view_is) ∙ c.in-Some.is,
      happens g.C.Exclusion.core _ _ c.self.inside.hand _ _ i.1 (Deliver c.in-Some.held.0 c.in-Some.held.1) _ _ _ _ _ _ _ _ _ _ _ c.self.view_is n.same.0 n.view c.store_up.ensures a.state a.letters (sym (append-nil _))
          ∙ ap (λ h. after_act g.C.Exclusion.core (Deliver c.in-Some.held.0 c.in-Some.held.1) h c.args.self.now) (c.let_go.ensures ∙ ap (λ s. left_in c.args.again s.me.hand) c.self.view_is),
    )
