use Rattle.std.proofs.Common.{rules, refl, sym, ap, ◌∙◌, inl, subst, Result, Ok, Err, ◌≡◌, ◌↔◌, ◌++◌, [], ◌∷◌}
use Rattle.std.specs.Arc.{arc_value}
use Rattle.mx_journal.specs.declared.receipts.Receipt.{Receipt}
use Rattle.mx_nodelaws.specs.Core.{IsInside}
use Rattle.mx_member.specs.declared.faults.CloseFault.{CloseFault}
use Rattle.mx_member.specs.declared.faults.CloseFault.TheVariants.{NotInside}
use Rattle.mx_member.specs.declared.acts.Act.TheVariants.{Leave}
use Rattle.mx_member.specs.declared.acts.Answer.TheVariants as answer
use Rattle.mx_member.specs.Receipts.{closed_by}
use Rattle.mx_member.specs.Steps.{leave_of}
use Rattle.mx_member.proofs.Refusing.{is_err}
use Rattle.mx_stations.specs.Posts.{post, shown}
use Rattle.mx_stations.specs.Running.{GoToNodes}
use Rattle.mx_stations.proofs.Posts.{acted_seat, acted_waits, acts_so, on_err, ready}
use Rattle.mx_stations.proofs.station.Station.leave.Goals as goal

pub act-requires : goal.act-requires
act-requires g c =
    let i = c.self.invariant in let a = c.in_ok-receipt.ensures in
    let closes = a.receipts ∙ ap (λ r. c.self.inside.receipts.items ++ closed_by (answer.Left r)) (sym a.answer) in
    let same = i.0 ∙ sym (ap (λ f. f.board.shared.table_id) c.deref.ensures) in
    (search rules, (search rules, ready g.C.Exclusion.core _ _ _ _ _ i.1 _ _ _ _ Leave _ _ _ _ same (ap (λ f. f.nodes) c.deref.ensures) i.2 tt (inl refl) a.state a.letters closes))

pub invariant_of-self : goal.invariant_of-self
invariant_of-self g c =
    let i = c.self.invariant in let p = c.self.inside in let k = c.in_err-receipt.ensures.kept in
    (i.0, (λ j. p.seat.me) ∙ i.1 ∙ (λ j. (shown p.node (sym k.0 j) p.hand (sym k.1 j) p.seat.me.0 ∷ [], [])), i.2, i.3)

pub returns-in_err-receipt-clause-not_inside : goal.returns-in_err-receipt-clause-not_inside
returns-in_err-receipt-clause-not_inside g c =
    let is = is_err c.from_residual.result c.in_err-receipt.field-0.0 c.from_residual.ensures.1 in
    let n = c.in_err-receipt.ensures.not_inside in
    let view = c.self.view_is in (
      (λ e inside. n.0 (sym is ∙ e) (subst (λ s. IsInside g.C.Exclusion.core s.me.member.core) (sym view) inside)),
      (λ h. is ∙ n.1 (λ inside. h (subst (λ s. IsInside g.C.Exclusion.core s.me.member.core) view inside))),
    )

pub returns-in_err-receipt-clause-memory : goal.returns-in_err-receipt-clause-memory
returns-in_err-receipt-clause-memory g c =
    let is = is_err c.from_residual.result c.in_err-receipt.field-0.0 c.from_residual.ensures.1 in
    let p = c.self.inside in let e = c.in_err-receipt.ensures in
    λ memory. (subst (λ s. IsInside g.C.Exclusion.core s.me.member.core) c.self.view_is (e.memory (sym is ∙ memory)), (λ j. post p.seat.table_id (arc_value p.field).nodes (shown p.node (e.kept.0 j) p.hand (e.kept.1 j) p.seat.me.0) p.waiting.items) ∙ c.self.view_is)

pub returns-in_err-receipt-clause-refused : goal.returns-in_err-receipt-clause-refused
returns-in_err-receipt-clause-refused g c =
    let p = c.self.inside in let e = c.in_err-receipt.ensures in
    on_err c.from_residual.result _ ((λ j. post p.seat.table_id (arc_value p.field).nodes (shown p.node (e.kept.0 j) p.hand (e.kept.1 j) p.seat.me.0) p.waiting.items) ∙ c.self.view_is)

pub invariant_of-self-2 : goal.invariant_of-self-2
invariant_of-self-2 g c =
    let i = c.self.invariant in let n = c.act.ensures in
    (n.same.0 ∙ i.0, (acted_seat _ _ _ _ _ i.1 _ _ _ _ _ n.view).0, i.2, acted_waits _ _ _ _ _ i.1 _ _ _ _ _ _ _ _ n.view i.3 (subst (λ f. GoToNodes f.nodes c.act.new.seat.me.0) c.deref.ensures n.sent) c.store_up.ensures)

pub returns-clause-not_inside : goal.returns-clause-not_inside
returns-clause-not_inside g c =
    let r : Result Receipt CloseFault = Ok c.in_ok-receipt.receipt in
    subst (λ s. (r ≡ Err NotInside) ↔ (IsInside g.C.Exclusion.core s.me.member.core → ⊥)) c.self.view_is c.in_ok-receipt.ensures.not_inside

pub returns-clause-answer : goal.returns-clause-answer
returns-clause-answer g c = subst (λ s. (leave_of g.C.Exclusion.core s.me.member).answer ≡ Ok c.in_ok-receipt.receipt) c.self.view_is c.in_ok-receipt.ensures.answer

pub returns-clause-done : goal.returns-clause-done
returns-clause-done g c =
    let i = c.self.invariant in let n = c.act.ensures in let a = c.in_ok-receipt.ensures in
    let closes = a.receipts ∙ ap (λ r. c.self.inside.receipts.items ++ closed_by (answer.Left r)) (sym a.answer) in
    acts_so g.C.Exclusion.core _ _ _ _ _ i.1 Leave _ _ _ _ _ _ _ _ _ _ c.self.view_is n.same.0 n.view c.store_up.ensures a.state a.letters closes

pub close-requires : goal.close-requires
close-requires g c = search rules
