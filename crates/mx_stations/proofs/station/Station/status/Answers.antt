use Rattle.std.proofs.Common.{sym, ap, ◌∙◌, subst, ℕ, ◌<◌, ◌∷◌, []}
use Rattle.std.specs.Arc.{arc_value}
use Rattle.mx_stations.specs.Posts.{Waits, post, sent_in, shown}
use Rattle.mx_stations.specs.Together.{ShowsNode}
use Rattle.mx_stations.proofs.Posts.{same_seat}
use Rattle.mx_stations.proofs.Tells.{even_beside, own_word, seen_by}
use Rattle.mx_stations.proofs.station.Station.status.Goals as goal

pub see-requires : goal.see-requires
see-requires g c = record {
  table = c.self.invariant.0 ∙ sym (ap (λ f. f.board.shared.table_id) c.deref.ensures);
  within = subst (λ (z : ℕ × ℕ). z.0 < z.1) (λ j. (sym c.get.ensures.value j, (sym (ap (λ s. s.nodes) c.self.view_is) ∙ sym (ap (λ f. f.nodes) c.deref.ensures)) j)) c.requires;
}

pub invariant_of-self : goal.invariant_of-self
invariant_of-self g c =
    let i = c.self.invariant in let n = c.see.ensures in let p = c.self.inside in
    (n.same.0 ∙ i.0, same_seat _ _ _ _ _ i.1 _ n.same.1, i.2, subst (λ m. Waits (arc_value p.field).nodes (sent_in m.0) p.waiting.items) (sym n.same.1) i.3)

pub returns : goal.returns
returns g c =
    let X = g.C.Exclusion in let laws = g.met.C.Exclusion.laws in
    let n = c.see.ensures in let p = c.self.inside in
    let seen : ShowsNode X.core X.Good c.args.self.now.nodes c.args.node c.see.result (c.args.self.now.me ∷ []) = seen_by X.core X.Good _ _ _ _ _ _ _ _ (ap (λ f. f.nodes) c.deref.ensures ∙ ap (λ s. s.nodes) c.self.view_is) c.get.ensures.value (ap (λ m. m.0) c.self.invariant.1) (ap (λ s. s.me) c.self.view_is) n.seen in
    record {
      same = (λ j. post (n.same.0 j) (arc_value p.field).nodes (shown p.node p.member p.hand p.receipts.items (n.same.1 j).0) p.waiting.items) ∙ c.self.view_is;
      shows = seen;
      own = own_word X.core X.IsShape X.Good laws _ _ _ _ seen;
      alone = even_beside X.core X.IsShape X.Good laws _ _ _ _ seen;
    }
