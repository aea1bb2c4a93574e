use Rattle.std.proofs.Common.{◌≡◌, [], length, refl, rules, sym, subst, ap, take, ◌∙◌, arith}
use Rattle.std.specs.Arc.{arc_value}
use Rattle.mx_stamps.specs.Lists.{IsIn}
use Rattle.mx_stamps.proofs.Lists.{in_first}
use Rattle.mx_stations.specs.Posts.{post, shown}
use Rattle.mx_stations.specs.Turns.{Goes, PutsEach}
use Rattle.mx_stations.proofs.Going.{goes_on, goes_putting, stays}
use Rattle.mx_stations.proofs.Turning.{one_more_put, put_more}
use Rattle.mx_stations.proofs.Waits.{turned_all, turned_none}
use Rattle.mx_stations.proofs.station.Station.put_each.Goals as goal

pub loop-index-init : goal.loop-index-init
loop-index-init g c =
    let none = turned_none c.args.self.now in
    record { far = ([], none, refl, refl); goes = stays g.C.Exclusion.core _ _ none; low = omega arith; few = (let r = c.requires.few.0 in omega arith, let r = c.requires.few.1 in omega arith); many = refl }

pub put_next-answer-requires : goal.put_next-answer-requires
put_next-answer-requires g c =
    let t = c.loop-index-test.true in let n = c.waits-index-end.ensures.count in let many = c.loop-index.invariant.many in
    (search rules, (omega (arith, t, n, many), c.loop-index.invariant.low))

pub note_put-requires : goal.note_put-requires
note_put-requires g c =
    let t = c.loop-index-test.true in let h = c.waits-index-end.ensures.few in
    let f = c.loop-index.invariant.few in record { put = omega (arith, f.0); full = omega (arith, f.1) }

pub loop-index-preserved : goal.loop-index-preserved
loop-index-preserved g c =
    let i = c.loop-index.invariant in let did = c.put_next-answer.ensures.put in record {
      far = one_more_put g.C.Exclusion.core _ _ _ _ _ _ _ c.put_next-answer.result i.far did c.note_put.ensures;
      goes = goes_on g.C.Exclusion.core _ _ _ i.goes (goes_putting g.C.Exclusion.core _ _ c.put_next-answer.result did);
      low = c.put_next-answer.ensures.kept;
      few = put_more _ c.put_next-answer.result _ _ i.few c.note_put.ensures;
      many = c.put_next-answer.ensures.many ∙ i.many;
    }

pub invariant_of-self : goal.invariant_of-self
invariant_of-self g c =
    let i = c.self-2.invariant in
    (i.0, i.1, i.2, λ x h. i.3 x (in_first c.loop-index.kept c.self-2.inside.waiting.items x (subst (λ w. IsIn x w) c.truncate.ensures.items h)))

pub returns : goal.returns
returns g c =
    let far = c.loop-index.invariant.far in let p = c.self-2.inside in
    let end : c.loop-index.index ≡ length c.args.self.now.waiting = (let t = c.loop-index-test.false in let a = c.loop-index.auto.index-end in let n = c.waits-index-end.ensures.count in omega arith) in
    let all = turned_all c.loop-index.self c.loop-index.index c.loop-index.kept (end ∙ sym c.loop-index.invariant.many)
    ∙ ap (λ s. post s.table s.nodes s.me (take c.loop-index.kept s.waiting)) (sym c.self-2.view_is)
    ∙ ap (λ w. post p.seat.table_id (arc_value p.field).nodes (shown p.node p.member p.hand p.receipts.items p.seat.me.0) w) (sym c.truncate.ensures.items) in
    record {
      put = (far.0, subst (λ s. PutsEach g.C.Exclusion.core far.0 c.args.self.now s) all far.1, far.2 ∙ end, far.3);
      goes = subst (λ s. Goes g.C.Exclusion.core c.args.self.now s) all c.loop-index.invariant.goes;
    }
