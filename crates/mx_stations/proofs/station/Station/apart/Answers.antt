use Rattle.std.proofs.Common.{rules, sym, ap, ◌∙◌, subst}
use Rattle.std.specs.Arc.{arc_value}
use Rattle.mx_stations.specs.Posts.{Waits, sent_in}
use Rattle.mx_stations.proofs.Posts.{same_seat}
use Rattle.mx_stations.proofs.Tells.{agree, apart, both_hold, one_inside, one_odd, seen_both}
use Rattle.mx_stations.proofs.station.Station.apart.Goals as goal

pub see_both-requires : goal.see_both-requires
see_both-requires g c = record {
  table = c.self.invariant.0 ∙ sym (ap (λ f. f.board.shared.table_id) c.deref.ensures);
  same_table = ap (λ s. s.table) c.other.view_is ∙ sym c.requires ∙ sym (ap (λ s. s.table) c.self.view_is);
  one = (_, c.self.invariant.1);
  other = (_, c.other.invariant.1);
}

pub invariant_of-self : goal.invariant_of-self
invariant_of-self g c =
    let i = c.self.invariant in let n = c.see_both.ensures.one in let p = c.self.inside in
    (n.0 ∙ i.0, same_seat _ _ _ _ _ i.1 _ n.1, i.2, subst (λ m. Waits (arc_value p.field).nodes (sent_in m.0) p.waiting.items) (sym n.1) i.3)

pub invariant_of-other : goal.invariant_of-other
invariant_of-other g c =
    let i = c.other.invariant in let n = c.see_both.ensures.other in let p = c.other.inside in
    (n.0 ∙ i.0, same_seat _ _ _ _ _ i.1 _ n.1, i.2, subst (λ m. Waits (arc_value p.field).nodes (sent_in m.0) p.waiting.items) (sym n.1) i.3)

pub returns : goal.returns
returns g c =
    let X = g.C.Exclusion in let laws = g.met.C.Exclusion.laws in
    let count = ap (λ f. f.nodes) c.deref.ensures ∙ ap (λ s. s.nodes) c.self.view_is in
    let seen = seen_both X.core X.Good _ _ _ _ _ _ _ _ count (ap (λ m. m.0) c.self.invariant.1) (ap (λ m. m.0) c.other.invariant.1) (ap (λ s. s.me) c.self.view_is) (ap (λ s. s.me) c.other.view_is) c.see_both.ensures.seen in
    record {
      same = search rules;
      differ = apart X.core X.Good _ _ _ seen;
      alone = one_inside X.core X.IsShape X.Good laws _ _ _ seen;
      words = one_odd X.core X.IsShape X.Good laws _ _ _ seen;
      agreed = agree X.core X.Good _ _ _ seen;
      runs = seen;
      held = both_hold X.core X.Good _ _ _ seen;
    }
