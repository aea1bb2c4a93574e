use Rattle.std.proofs.Common.{ℕ, ◌+◌, ◌<◌, ◌++◌, ◌∷◌, [], append_assoc, ap, arith, drop, length, subst, sym, take, ◌∙◌}
use Rattle.mx_stamps.specs.Lists.{IsIn}
use Rattle.mx_stamps.proofs.Choices.{lt_false}
use Rattle.mx_stamps.proofs.Lists.{drop_at, in_get}
use Rattle.mx_stations.specs.Links.{slot_at}
use Rattle.mx_stations.specs.Posts.{sent_in, turned}
use Rattle.mx_stations.proofs.Posts.{idle, same_seat}
use Rattle.mx_stations.proofs.Crossing.{fills, placed_seat, placed_waits, put_sent, put_full, turned_waits}
use Rattle.mx_stations.proofs.Waits.{looked_up}
use Rattle.mx_stations.proofs.station.Station.put_next.Goals as goal

pub unreachable-requires : goal.unreachable-requires
unreachable-requires g c =
    let many = ap length (c.as_slice.ensures.value ∙ ap (λ s. s.waiting) c.self.view_is) in
    let out = lt_false c.args.index (length c.as_slice.result.now) (sym c.in_default.ensures.lookup.0) in
    let within = c.requires.within in
    absurd (omega (arith, many, out, within))

pub claim_empty-requires-clause-link : goal.claim_empty-requires-clause-link
claim_empty-requires-clause-link g c =
    let i = c.self.invariant in
    let there = looked_up _ _ c.args.index c.in-Some.next.now c.as_slice.ensures.value c.in-Some.ensures.lookup.0 c.in-Some.ensures.lookup.1 in
    let to = (i.3 c.in-Some.next.now (in_get _ _ _ there)).1 in
    let n = ap (λ f. f.nodes) (sym c.deref-field.ensures) in
    (i.0 ∙ sym (ap (λ f. f.board.shared.table_id) c.deref-field.ensures), (subst (λ (k : ℕ). c.self.inside.node < k) n i.2, subst (λ (k : ℕ). c.in-Some.next.now.0 < k) n to))

pub claim_empty-requires-clause-idle : goal.claim_empty-requires-clause-idle
claim_empty-requires-clause-idle g c = idle _ _ _ _ _ c.self.invariant.1

pub invariant_of-self : goal.invariant_of-self
invariant_of-self g c =
    let i = c.self.invariant in let n = c.in_default-claim_empty.ensures in
    let same = n.none.0 in
    (n.same.0 ∙ i.0, same_seat _ _ _ _ _ i.1 _ same, i.2, turned_waits _ _ _ _ _ i.1 _ _ c.self.inside.waiting.items _ same i.3 c.bring_forward.ensures.among)

pub returns-in_default-claim_empty-clause-put : goal.returns-in_default-claim_empty-clause-put
returns-in_default-claim_empty-clause-put g c =
    let i = c.self.invariant in let n = c.in_default-claim_empty.ensures in let b = c.bring_forward.ensures in
    let x = c.in-Some.next.now in let w = c.self.inside.waiting.items in
    let there = looked_up _ _ c.args.index x c.as_slice.ensures.value c.in-Some.ensures.lookup.0 c.in-Some.ensures.lookup.1 in
    let at : ℕ → ℕ → ℕ = λ nodes u. slot_at nodes c.self.inside.node x.0 u in
    put_full _ _ _ _ _ i.1 (at c.deref-field.result.now.nodes) _ _ _ _ _ _ _ _ _ _ (ap (turned c.args.index c.args.kept.now) c.self.view_is) n.same.0 (λ u. ap (λ z. at z.nodes u) c.deref-field.ensures) n.none.0 n.none.1
    (ap (λ l. l ++ take c.args.kept.now w) (drop_at w c.args.index x there))
    ((λ j. b.back j ++ b.front x there j) ∙ sym (append_assoc (drop (c.args.index + 1) w) (take c.args.kept.now w) (x ∷ [])))

pub returns-in_default-claim_empty-clause-many : goal.returns-in_default-claim_empty-clause-many
returns-in_default-claim_empty-clause-many g c = c.bring_forward.ensures.many ∙ ap (λ s. length s.waiting) c.self.view_is

pub place-requires-clause-link : goal.place-requires-clause-link
place-requires-clause-link g c =
    let i = c.self.invariant in
    let there = looked_up _ _ c.args.index c.in-Some.next.now c.as_slice.ensures.value c.in-Some.ensures.lookup.0 c.in-Some.ensures.lookup.1 in
    let to = (i.3 c.in-Some.next.now (in_get _ _ _ there)).1 in
    let n = ap (λ f. f.nodes) (sym c.deref-field.ensures) in
    (c.in-Some-claim_empty.ensures.same.0 ∙ i.0 ∙ sym (ap (λ f. f.board.shared.table_id) c.deref-field.ensures), (subst (λ (k : ℕ). c.self.inside.node < k) n i.2, subst (λ (k : ℕ). c.in-Some.next.now.0 < k) n to))

pub place-requires-clause-index : goal.place-requires-clause-index
place-requires-clause-index g c = c.in-Some-claim_empty.ensures.some.0

pub place-requires-clause-filling : goal.place-requires-clause-filling
place-requires-clause-filling g c =
    let i = c.self.invariant in
    let there = looked_up _ _ c.args.index c.in-Some.next.now c.as_slice.ensures.value c.in-Some.ensures.lookup.0 c.in-Some.ensures.lookup.1 in
    let sent = (i.3 c.in-Some.next.now (in_get _ _ _ there)).0 in
    fills _ _ _ _ _ i.1 _ _ _ _ c.in-Some-claim_empty.ensures.some.1 (subst (λ p. IsIn (c.in-Some.next.now.0, p) (sent_in c.self.inside.seat.me.0)) (sym c.copy.ensures) sent)

pub invariant_of-self-2 : goal.invariant_of-self-2
invariant_of-self-2 g c =
    let i = c.self.invariant in let n = c.in-Some-claim_empty.ensures in let p = c.place.ensures in
    (p.same.0 ∙ n.same.0 ∙ i.0, placed_seat _ _ _ _ _ i.1 _ _ _ _ n.some.1 p.view, i.2, placed_waits _ _ _ _ _ i.1 _ _ _ _ _ c.self.inside.waiting.items _ n.some.1 p.view i.3 (λ x h. h))

pub returns-clause-put : goal.returns-clause-put
returns-clause-put g c =
    let i = c.self.invariant in let n = c.in-Some-claim_empty.ensures in let p = c.place.ensures in
    let x = c.in-Some.next.now in let w = c.self.inside.waiting.items in
    let there = looked_up _ _ c.args.index x c.as_slice.ensures.value c.in-Some.ensures.lookup.0 c.in-Some.ensures.lookup.1 in
    put_sent _ _ _ _ _ i.1 _ _ _ _ _ _ _ _ _ _ _ _ (ap (turned c.args.index c.args.kept.now) c.self.view_is) (p.same.0 ∙ n.same.0) (ap (λ z. slot_at z.nodes c.self.inside.node x.0 c.in-Some-claim_empty.slot) c.deref-field.ensures) n.some.0 n.some.1 p.view
    (ap (λ l. l ++ take c.args.kept.now w) (drop_at w c.args.index x there) ∙ (λ j. (x.0, sym c.copy.ensures j) ∷ (drop (c.args.index + 1) w ++ take c.args.kept.now w)))
