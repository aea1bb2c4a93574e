use Rattle.std.proofs.Common.{rules, inl, refl, sym, ap, ◌∙◌, subst, ◌≡◌, [], ◌∷◌, ◌++◌, append-nil}
use Rattle.std.specs.Arc.{arc_value}
use Rattle.mx_member.specs.Acts.{IsRefusal, act_of}
use Rattle.mx_member.proofs.Refused.{refused_stays}
use Rattle.mx_stations.specs.Posts.{post, shown}
use Rattle.mx_stations.specs.Running.{GoToNodes, MayDo}
use Rattle.mx_stations.proofs.Plain.{on_done, on_refusal, plain_so}
use Rattle.mx_stations.proofs.Posts.{acted_seat, acted_waits, acts_so, ready}
use Rattle.mx_stations.proofs.station.Station.does.Goals as goal

pub perform-requires : goal.perform-requires
perform-requires g c = (search rules, (search rules, (c.clear.ensures, (plain_so g.C.Exclusion.core c.args.self.now.nodes c.self.inside.hand c.self.inside.member c.args.act c.requires).1)))

pub unreachable-requires : goal.unreachable-requires
unreachable-requires g c =
    absurd ((plain_so g.C.Exclusion.core c.args.self.now.nodes c.self.inside.hand c.self.inside.member c.args.act c.requires).3 c.in_default.ensures.memory)

pub invariant_of-self : goal.invariant_of-self
invariant_of-self g c =
    let i = c.self.invariant in let p = c.self.inside in let a = c.in-Ok.ensures in
    let stays = refused_stays g.C.Exclusion.core g.met.C.Exclusion.phases p.member c.args.act (subst IsRefusal a.answer c.if-is_refusal.ensures) in
    (i.0, subst (λ y. p.seat.me ≡ (shown p.node y p.hand p.receipts.items p.seat.me.0 ∷ [], [])) (sym (a.state ∙ stays.0)) i.1, i.2, i.3)

pub returns-then-is_refusal-clause-done : goal.returns-then-is_refusal-clause-done
returns-then-is_refusal-clause-done g c = on_done _ _ (λ told. absurd (told c.if-is_refusal.ensures))

pub returns-then-is_refusal-clause-refused : goal.returns-then-is_refusal-clause-refused
returns-then-is_refusal-clause-refused g c =
    let p = c.self.inside in let a = c.in-Ok.ensures in
    let stays = refused_stays g.C.Exclusion.core g.met.C.Exclusion.phases p.member c.args.act (subst IsRefusal a.answer c.if-is_refusal.ensures) in
    on_refusal _ _ (λ refused. ap (λ y. post p.seat.table_id (arc_value p.field).nodes (shown p.node y p.hand p.receipts.items p.seat.me.0) p.waiting.items) (a.state ∙ stays.0) ∙ c.self.view_is)

pub act-requires : goal.act-requires
act-requires g c =
    let i = c.self.invariant in let a = c.in-Ok.ensures in
    let same = i.0 ∙ sym (ap (λ f. f.board.shared.table_id) c.deref.ensures) in
    let plain = plain_so g.C.Exclusion.core c.args.self.now.nodes c.self.inside.hand c.self.inside.member c.args.act c.requires in
    let may = subst (λ s. MayDo s.nodes c.self.inside.hand c.args.act) (sym c.self.view_is) plain.0 in
    let closes = sym (append-nil _) ∙ ap (λ r. c.self.inside.receipts.items ++ r) (sym plain.2) in
    (search rules, (search rules, ready g.C.Exclusion.core _ _ _ _ _ i.1 _ _ _ _ c.args.act _ _ _ _ same (ap (λ f. f.nodes) c.deref.ensures) i.2 (subst (λ f. MayDo f.nodes c.self.inside.hand c.args.act) (sym c.deref.ensures) may) (inl refl) a.state a.letters closes))

pub invariant_of-self-2 : goal.invariant_of-self-2
invariant_of-self-2 g c =
    let i = c.self.invariant in let n = c.act.ensures in
    (n.same.0 ∙ i.0, (acted_seat _ _ _ _ _ i.1 _ _ _ _ _ n.view).0, i.2, acted_waits _ _ _ _ _ i.1 _ _ _ _ _ _ _ _ n.view i.3 (subst (λ f. GoToNodes f.nodes c.act.new.seat.me.0) c.deref.ensures n.sent) c.store_up.ensures)

pub returns-clause-done : goal.returns-clause-done
returns-clause-done g c =
    let i = c.self.invariant in let n = c.act.ensures in let a = c.in-Ok.ensures in
    let plain = plain_so g.C.Exclusion.core c.args.self.now.nodes c.self.inside.hand c.self.inside.member c.args.act c.requires in
    let closes = sym (append-nil _) ∙ ap (λ r. c.self.inside.receipts.items ++ r) (sym plain.2) in
    on_done _ _ (λ told. acts_so g.C.Exclusion.core _ _ _ _ _ i.1 c.args.act _ _ _ _ _ _ _ _ _ _ c.self.view_is n.same.0 n.view c.store_up.ensures a.state a.letters closes)

pub returns-then-is_refusal-clause-answer : goal.returns-then-is_refusal-clause-answer
returns-then-is_refusal-clause-answer g c = subst (λ s. c.in-Ok.answer ≡ (act_of g.C.Exclusion.core c.args.act s.me.member).answer) c.self.view_is c.in-Ok.ensures.answer

pub returns-clause-answer : goal.returns-clause-answer
returns-clause-answer g c = subst (λ s. c.in-Ok.answer ≡ (act_of g.C.Exclusion.core c.args.act s.me.member).answer) c.self.view_is c.in-Ok.ensures.answer

pub returns-clause-refused : goal.returns-clause-refused
returns-clause-refused g c = on_refusal _ _ (λ refused. absurd (c.if-is_refusal.ensures refused))
