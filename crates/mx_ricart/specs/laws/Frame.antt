-- What a step of one node does not change.
use Rattle.std.proofs.Common.{ℕ, ◌<◌, ◌≤◌, ◌≡◌, ◌≢◌, ◌⊎◌, inl, inr, true, length, refl, sym, ◌∙◌, ap, subst, arith}
use Rattle.std.proofs.lemmas.Option.{slice_get_within}
use Rattle.std.proofs.lemmas.List.{length-set}
use Rattle.mx_stamps.specs.declared.stamp.Stamp.{Stamp}
use Rattle.mx_letters.specs.declared.ricart.RicartMsg.{RicartMsg}
use Rattle.mx_letters.specs.declared.ricart.RicartMsg.TheVariants.{Request, Reply}
use Rattle.mx_stamps.specs.Stamp.{Before}
use Rattle.mx_stamps.specs.Lists.{IsIn}
use Rattle.mx_nodelaws.specs.World.{World, Done, IsNode, after}
use Rattle.mx_stamps.proofs.Lists.{get_after}
use Rattle.mx_stamps.proofs.Stamps.{before_apart}
use Rattle.mx_nodelaws.proofs.Frame.{sent_after, still_come, still_reached}
use Rattle.mx_nodelaws.proofs.Each.{each_after_step}
use Rattle.mx_ricart.specs.Node.{Node}
use Rattle.mx_ricart.specs.Step.{has_reply}
use Rattle.mx_ricart.specs.Good.{IsBusy, HasSeen, IsReached, IsNodeOk, IsReplyOk, IsLetterOk, IsSafe}

-- how a step may change a node: `highest` and `mine` do not fall
pub record MovesForward (w : World Node RicartMsg) (i : ℕ) (s new : Node) : Type 0 where
  pub highest : s.highest ≤ new.highest
  pub mine : s.mine ≤ new.mine
  -- a current stamp was current before, or is new and above the numbers that the node had seen
  pub stamp : IsBusy new → (IsBusy s × (new.ours ≡ s.ours)) ⊎ (s.highest < new.ours.number)
  -- the node enters only if the reply of every other node has counted
  pub entry : (new.mine ≡ s.mine) ⊎ (IsBusy s
      × ((j : ℕ) → j < length w.nodes → j ≢ i → has_reply s j ≡ true))

module _ {A : Type 0} (w : World Node RicartMsg) (i : ℕ) (s : Node) (done : Done Node A RicartMsg)
    (good : IsSafe w) (at : IsNode w i s) (moves : MovesForward w i s done.state) where
  pub seen_after : (j number : ℕ) → HasSeen w j number → HasSeen (after w i done) j number
  seen_after j number h = still_come w i s done at (λ x. x.highest) moves.highest j number h

  pub reached_after : (n : ℕ) → IsReached w n → IsReached (after w i done) n
  reached_after n h = still_reached w i s done at (λ x. x.mine) moves.mine n h

  -- a reply remains valid when its addressee takes the step
  stands_to : (a : ℕ) (stamp : Stamp) (top : ℕ) → IsReplyOk w a i stamp top → (sa : Node)
      → IsNode w a sa → IsBusy done.state → done.state.ours ≡ stamp → (sa.mine ≤ top)
      × (IsBusy sa → Before stamp sa.ours)
  stands_to a stamp top ok sa sat busy ours = elim (moves.stamp busy) [
    | inl p ↦ ok.stands sa s sat at p.0 (sym p.1 ∙ ours)
    | inr p ↦ let k : stamp.number ≤ s.highest = ok.issued s at in let e : done.state.ours.number
        ≡ stamp.number = ap (λ x. x.number) ours in absurd (omega arith)
  ]

  -- a reply remains valid when its sender takes the step
  stands_from : (b : ℕ) (stamp : Stamp) (top : ℕ) → IsReplyOk w i b stamp top → (tb : Node)
      → IsNode w b tb → b ≢ i → IsBusy tb → tb.ours ≡ stamp → (done.state.mine ≤ top)
      × (IsBusy done.state → Before stamp done.state.ours)
  stands_from b stamp top ok tb tat ne busy ours =
      let old = ok.stands s tb at tat busy ours in (
        elim moves.entry [
          | inl e ↦ (let k : s.mine ≤ top = old.0 in omega arith)
          | inr p ↦
              let r = (good.nodes i s at).replies p.0 b
              (p.1 b (slice_get_within w.nodes b tb tat) ne) in
              let back : IsReplyOk w b i s.ours r.0 = good.letters b i (Reply s.ours r.0) r.1 in
              let first : Before s.ours tb.ours = (back.stands tb s tat at p.0 refl).1 busy in
              absurd (before_apart s.ours stamp (subst (λ x. Before s.ours x) ours first)
              (old.1 p.0))
        ],
        λ now. elim (moves.stamp now) [
          | inl p ↦ subst (λ x. Before stamp x) (sym p.1) (old.1 p.0)
          | inr p ↦ inl (let k : stamp.number ≤ s.highest = ok.seen s at in omega arith)
        ],
      )

  reply_after : (a b : ℕ) (stamp : Stamp) (top : ℕ) → IsReplyOk w a b stamp top
      → IsReplyOk (after w i done) a b stamp top
  reply_after a b stamp top ok = record {
    other = ok.other;
    issued = seen_after b stamp.number ok.issued;
    seen = seen_after a stamp.number ok.seen;
    reached = reached_after top ok.reached;
    stands = λ sa tb sat tat busy ours. elim (get_after w.nodes i b s done.state tb at tat) [
      | inl p ↦ elim (get_after w.nodes i a s done.state sa at sat) [
        | inl q ↦ absurd (ok.other (q.0 ∙ sym p.0))
        | inr q ↦ stands_to a stamp top (subst (λ x. IsReplyOk w a x stamp top) p.0 ok) sa q.1
            (subst (λ x. IsBusy x) p.1 busy) (subst (λ x. x.ours ≡ stamp) p.1 ours)
      ]
      | inr p ↦ elim (get_after w.nodes i a s done.state sa at sat) [
        | inl q ↦ let r = stands_from b stamp top
            (subst (λ x. IsReplyOk w x b stamp top) q.0 ok) tb p.1 p.0 busy ours in
            subst (λ x. (x.mine ≤ top) × (IsBusy x → Before stamp x.ours)) (sym q.1) r
        | inr q ↦ ok.stands sa tb q.1 p.1 busy ours
      ]
    ];
  }

  letter_after : (a b : ℕ) (m : RicartMsg) → IsLetterOk w a b m → IsLetterOk (after w i done) a b m
  letter_after a b (Request stamp) ok =
      record { node = ok.node; issued = seen_after a stamp.number ok.issued }
  letter_after a b (Reply stamp top) ok = reply_after a b stamp top ok

  -- what holds for a state of a node before the step holds for this state after it
  pub other_after : (j : ℕ) (t : Node) → IsNodeOk w j t → IsNodeOk (after w i done) j t
  other_after j t ok = record {
    me = ok.me;
    count = ok.count ∙ sym (length-set w.nodes i done.state);
    ours_node = ok.ours_node;
    ours_seen = ok.ours_seen;
    mine_top = ok.mine_top;
    top_reached = reached_after t.top ok.top_reached;
    inside_has = λ n inside k lt ne. ok.inside_has n inside k
        (subst (λ x. k < x) (length-set w.nodes i done.state) lt) ne;
    replies = λ busy k has. let r = ok.replies busy k has in
        (r.0, sent_after w i s done at k j (Reply t.ours r.0) r.1, r.2);
    waits = λ k d was. let r = ok.waits k d was in (r.0, r.1, r.2, seen_after k d.number r.3);
  }

  -- a world is safe after a step if the node's new state and its new letters are as they should be
  pub good_after : IsNodeOk (after w i done) i done.state
      → ((b : ℕ) (m : RicartMsg) → IsIn (b, m) done.letters → IsLetterOk (after w i done) i b m)
      → IsSafe (after w i done)
  good_after node letters = each_after_step IsNodeOk IsLetterOk w i s done at good
      (λ j t _ ok. other_after j t ok) (λ a b m _ ok. letter_after a b m ok) node letters
