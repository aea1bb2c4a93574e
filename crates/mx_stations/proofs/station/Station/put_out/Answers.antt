use Rattle.std.proofs.Common.{rules, arith, refl, sym, ap, ◌∙◌, subst, length}
use Rattle.std.specs.Arc.{arc_value}
use Rattle.mx_stamps.specs.Lists.{IsIn}
use Rattle.mx_stations.specs.Posts.{post, shown, turned}
use Rattle.mx_stations.proofs.Waits.{none_left, puts_from, turned_among, turned_none}
use Rattle.mx_stations.proofs.station.Station.put_out.Goals as goal

pub returns-then-len-eq0 : goal.returns-then-len-eq0
returns-then-len-eq0 g c = (ap (λ s. s.waiting) (sym c.self.view_is) ∙ none_left c.self.inside.waiting.items (let e = c.len.ensures.value in let t = c.if-len-eq0.true in omega (arith, e, t)), refl)

pub put_next-answer-requires : goal.put_next-answer-requires
put_next-answer-requires g c =
    let many = ap (λ s. length s.waiting) c.self.view_is in
    let e = c.len.ensures.value in let t = c.if-len-eq0.false in
    (search rules, (omega (arith, many, e, t), omega arith))

pub turn-requires : goal.turn-requires
turn-requires g c =
    let before = ap (λ s. length s.waiting) c.self.view_is in
    let after = ap (λ s. length s.waiting) c.self-2.view_is in
    let many = c.put_next-answer.ensures.many in
    let kept = c.put_next-answer.ensures.kept in
    let e = c.len.ensures.value in let t = c.if-len-eq0.false in
    (search rules, (omega (arith, before, after, many, e, t), kept))

pub invariant_of-self : goal.invariant_of-self
invariant_of-self g c =
    let i = c.self-2.invariant in
    (i.0, i.1, i.2, λ x h. i.3 x (turned_among 1 c.put_next-answer.new.kept c.self-2.inside.waiting.items x (subst (λ w. IsIn x w) c.turn.ensures h)))

pub returns : goal.returns
returns g c =
    let p = c.self-2.inside in
    puts_from c.put_next-answer.result _ _ _ _ (turned_none c.args.self.now)
    (ap (turned 1 c.put_next-answer.new.kept) (sym c.self-2.view_is) ∙ ap (λ w. post p.seat.table_id (arc_value p.field).nodes (shown p.node p.member p.hand p.receipts.items p.seat.me.0) w) (sym c.turn.ensures))
    c.put_next-answer.ensures.put
