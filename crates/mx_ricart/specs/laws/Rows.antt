-- Each row of the step table keeps a world safe.
use Rattle.std.proofs.Common.{ℕ, ◌<◌, ◌≤◌, ◌+◌, ◌≡◌, ◌≢◌, inl, inr, true, false, ◌&&◌, ◌||◌, [], not, Option, Some, None, max, length, get_or, replicate, nat_eq, refl, sym, ◌∙◌, ap, subst, arith}
use Rattle.std.proofs.lemmas.Option.{same_Some}
use Rattle.std.proofs.lemmas.List.{length-set}
use Rattle.mx_stamps.specs.Lists.{IsIn}
use Rattle.mx_stamps.specs.declared.stamp.Stamp.{Stamp}
use Rattle.mx_stamps.specs.Stamp.{Before, is_before_of, is_same_as}
use Rattle.mx_stamps.proofs.Lists.{get_set_same, get_or_after, get_or_replicate, none_is_no_some, in_left}
use Rattle.mx_stamps.proofs.Choices.{eq_true, and_true, and_false, cond_case}
use Rattle.mx_stamps.proofs.Stamps.{not_before, same_stamp}
use Rattle.mx_letters.specs.declared.ricart.RicartMsg.{RicartMsg}
use Rattle.mx_letters.specs.declared.ricart.RicartMsg.TheVariants.{Request, Reply}
use Rattle.mx_nodelaws.specs.World.{World, Done, becoming, IsNode, WasSent, after}
use Rattle.mx_nodelaws.specs.declared.phase.Phase.TheVariants.{Idle, Waiting}
use Rattle.mx_nodelaws.proofs.Frame.{is_new, reached_max}
use Rattle.mx_nodelaws.proofs.Worlds.{in_addressed, nothing_kept}
use Rattle.mx_nodelaws.specs.Phases.{is_busy, is_waiting}
use Rattle.mx_nodelaws.proofs.Phases.{waiting_not_inside, waiting_is, idle_not_busy}
use Rattle.mx_nodelaws.proofs.Sent.{sent_unless}
use Rattle.mx_ricart.specs.Node.{Node}
use Rattle.mx_ricart.specs.Step.{is_other, has_reply, deferred_at, HasAllReplies, asking, request_others, asked, seeing, later_of, deferring, replied, take_request, counting, take_reply, deliver_of, entering, ending, reply_to, reply_deferred, ended, request_missing, ticked, tick_of}
use Rattle.mx_ricart.specs.Good.{IsBusy, HasSeen, IsReached, IsNodeOk, IsRequestOk, IsReplyOk, IsLetterOk, IsSafe}
use Rattle.mx_ricart.specs.laws.Tests.{other_is}
use Rattle.mx_ricart.specs.laws.Frame.{MovesForward, good_after, seen_after, reached_after, other_after}

pub sent_reply : (o : Option Stamp) (top : ℕ) (m : RicartMsg) → reply_to o top ≡ Some m
    → (d : Stamp) × (o ≡ Some d) × (m ≡ Reply d top)
sent_reply None top m h = absurd (none_is_no_some m h)
sent_reply (Some d) top m h = (d, refl, sym (same_Some (Reply d top) m h))

-- an idle node that defers no reply is as it should be, if its name, count, `mine` and `top` are
pub idle_ok : (w : World Node RicartMsg) (i : ℕ) (s : Node) → s.phase ≡ Idle → s.deferred
    ≡ replicate 21 None → s.me ≡ i → s.count ≡ length w.nodes → s.mine ≤ s.top → IsReached w s.top
    → IsNodeOk w i s
idle_ok w i s idle deferred me count low reached = record {
  me = me;
  count = count;
  ours_node = λ busy. absurd (idle_not_busy s.phase idle busy);
  ours_seen = λ busy. absurd (idle_not_busy s.phase idle busy);
  mine_top = low;
  top_reached = reached;
  inside_has = λ n inside j lt ne. absurd (idle_not_busy s.phase idle (ap is_busy inside));
  replies = λ busy j has. absurd (idle_not_busy s.phase idle busy);
  waits = λ j d was. absurd (none_is_no_some d
      (sym (get_or_replicate 21 j None) ∙ ap (λ x. get_or x j None) (sym deferred) ∙ was));
}

module _ (w : World Node RicartMsg) (i : ℕ) (s : Node) (good : IsSafe w) (at : IsNode w i s) where
  was_ok : IsNodeOk w i s
  was_ok = good.nodes i s at

  -- a letter that is ignored
  ignored : IsSafe (after w i (becoming s))
  ignored = nothing_kept {A = Unit {0}} IsSafe w i s tt good at

  -- the node itself after its step

  seen_self : {A : Type 0} (done : Done Node A RicartMsg) (number : ℕ) → number ≤ done.state.highest
      → HasSeen (after w i done) i number
  seen_self done number le t tat = let e : t.highest ≡ done.state.highest =
      ap (λ r. r.highest) (is_new w i s done at i t refl tat) in omega arith

  -- ask

  asked_moves : MovesForward w i s (asking s)
  asked_moves = record {
    highest = omega arith;
    mine = omega arith;
    stamp = λ busy. inr (omega arith);
    entry = inl refl;
  }

  pub asked_good : IsSafe (after w i (asked s))
  asked_good =
      let kept = other_after w i s (asked s) good at asked_moves i s was_ok in
      good_after w i s (asked s) good at asked_moves
      (record {
        me = was_ok.me;
        count = kept.count;
        ours_node = λ busy. was_ok.me;
        ours_seen = λ busy. omega arith;
        mine_top = was_ok.mine_top;
        top_reached = kept.top_reached;
        inside_has = λ n inside j lt ne. absurd (waiting_not_inside Waiting n refl inside);
        replies = λ busy j has. let bad : false ≡ true = sym (get_or_replicate 21 j false) ∙ has in
            let none : ⊥ = cc in absurd none;
        waits = λ j d was. let r = kept.waits j d was in
            (r.0, r.1, (let le : d.number ≤ s.highest = r.2 in omega arith), r.3);
      })
      (λ b m sent. let r = in_addressed (request_others (asking s)) s.count b m sent in
      subst (λ x. IsLetterOk (after w i (asked s)) i b x)
      (sym (sent_unless (nat_eq b s.me) (Request (asking s).ours) m r.1).1)
      (record { node = was_ok.me; issued = seen_self (asked s) (s.highest + 1) (omega arith) }))

  -- a request comes

  saw_moves : (number : ℕ) (new : Node) → new.highest ≡ max s.highest number → new.mine ≡ s.mine
      → new.phase ≡ s.phase → new.ours ≡ s.ours → MovesForward w i s new
  saw_moves number new h m p o = record {
    highest = omega arith;
    mine = omega arith;
    stamp = λ busy. inl (sym (ap is_busy p) ∙ busy, o);
    entry = inl m;
  }

  -- the request of node j that is deferred after the step is the new one or the old one
  waits_new : {A : Type 0} (from : ℕ) (stamp : Stamp) → from ≢ i → stamp.node ≡ from
      → IsRequestOk w from stamp → (done : Done Node A RicartMsg) → MovesForward w i s done.state
      → (j : ℕ) (d : Stamp) → j ≡ stamp.node → (old : Option Stamp) → deferred_at s stamp.node ≡ old
      → later_of old stamp ≡ d → (j ≢ i) × (d.node ≡ j) × (d.number ≤ max s.highest stamp.number)
      × HasSeen (after w i done) j d.number
  waits_new from stamp other node ok done moves j d e None was is = (
    λ f. other (sym node ∙ sym e ∙ f),
    ap (λ x. x.node) (sym is) ∙ sym e,
    (let k : d.number ≡ stamp.number = ap (λ x. x.number) (sym is) in omega arith),
    subst (λ x. HasSeen (after w i done) j x.number) is
        (subst (λ x. HasSeen (after w i done) x stamp.number) (sym (e ∙ node))
        (seen_after w i s done good at moves from stamp.number ok.issued)),
  )
  waits_new from stamp other node ok done moves j d e (Some old) was is =
      let r = was_ok.waits stamp.node old was in
      let P : Stamp → Type 0 = λ x. (j ≢ i) × (x.node ≡ j) × (x.number ≤ max s.highest stamp.number)
      × HasSeen (after w i done) j x.number in
      subst P is (cond_case P (is_before_of old stamp) stamp old
      (λ _. (
        λ f. other (sym node ∙ sym e ∙ f),
        sym e,
        omega arith,
        subst (λ x. HasSeen (after w i done) x stamp.number) (sym (e ∙ node))
            (seen_after w i s done good at moves from stamp.number ok.issued),
      ))
      (λ _. (
        λ f. r.0 (sym e ∙ f),
        r.1 ∙ sym e,
        (let le : old.number ≤ s.highest = r.2 in omega arith),
        subst (λ x. HasSeen (after w i done) x old.number) (sym e)
            (seen_after w i s done good at moves stamp.node old.number r.3),
      )))

  deferred_good : (from : ℕ) (stamp : Stamp) → from ≢ i → stamp.node ≡ from
      → IsRequestOk w from stamp → IsSafe (after w i
      (becoming (deferring (seeing s stamp.number) stamp)))
  deferred_good from stamp other node ok =
      let new : Node = deferring (seeing s stamp.number) stamp in
      let done : Done Node (Unit {0}) RicartMsg = becoming new in
      let moves = saw_moves stamp.number new refl refl refl refl in
      let kept = other_after w i s done good at moves i s was_ok in
      good_after w i s done good at moves
      (record {
        me = was_ok.me;
        count = kept.count;
        ours_node = was_ok.ours_node;
        ours_seen = λ busy. let le = was_ok.ours_seen busy in omega arith;
        mine_top = was_ok.mine_top;
        top_reached = kept.top_reached;
        inside_has = kept.inside_has;
        replies = kept.replies;
        waits = λ j d was. elim (get_or_after s.deferred stamp.node j
            (Some (later_of (deferred_at s stamp.node) stamp)) None (Some d) was) [
              | inl p ↦ waits_new from stamp other node ok done moves j d p.0
                  (deferred_at s stamp.node) refl (same_Some
                  (later_of (deferred_at s stamp.node) stamp) d p.1)
              | inr q ↦ let r = kept.waits j d q in
                  (r.0, r.1, (let le : d.number ≤ s.highest = r.2 in omega arith), r.3)
            ];
      })
      (λ b m sent. absurd sent)

  replied_good : (from : ℕ) (stamp : Stamp) → from ≢ i → stamp.node ≡ from
      → IsRequestOk w from stamp → (is_busy s.phase && is_before_of s.ours stamp) ≡ false
      → IsSafe (after w i (replied (seeing s stamp.number) stamp))
  replied_good from stamp other node ok free =
      let new : Node = seeing s stamp.number in
      let done : Done Node (Unit {0}) RicartMsg = replied new stamp in
      let moves = saw_moves stamp.number new refl refl refl refl in
      let kept = other_after w i s done good at moves i s was_ok in
      let reply : IsReplyOk (after w i done) i from stamp s.top = record {
        other = λ e. other (sym e);
        issued = seen_after w i s done good at moves from stamp.number ok.issued;
        seen = seen_self done stamp.number (omega arith);
        reached = kept.top_reached;
        stands = λ sa tb sat tat busy ours.
            let e = is_new w i s done at i sa refl sat in (
              (let k : sa.mine ≡ s.mine = ap (λ x. x.mine) e in let l = was_ok.mine_top in
                  omega arith),
              λ now.
                  let was_busy : is_busy s.phase ≡ true = sym (ap (λ x. is_busy x.phase) e) ∙ now in
                  subst (λ x. Before stamp x) (sym (ap (λ x. x.ours) e))
                  (not_before s.ours stamp (and_false (is_busy s.phase)
                  (is_before_of s.ours stamp) free was_busy)
                  (λ same. other (sym node ∙ sym same ∙ was_ok.ours_node was_busy))),
            );
      } in
      good_after w i s done good at moves
      (record {
        me = was_ok.me;
        count = kept.count;
        ours_node = was_ok.ours_node;
        ours_seen = λ busy. let le = was_ok.ours_seen busy in omega arith;
        mine_top = was_ok.mine_top;
        top_reached = kept.top_reached;
        inside_has = kept.inside_has;
        replies = kept.replies;
        waits = λ j d was. let r = kept.waits j d was in
            (r.0, r.1, (let le : d.number ≤ s.highest = r.2 in omega arith), r.3);
      })
      (λ b m sent. elim sent [
        | inl e ↦ subst (λ x. IsLetterOk (after w i done) i b x) (sym (ap (λ x. x.1) e))
            (subst (λ x. IsReplyOk (after w i done) i x stamp s.top)
            (sym (ap (λ x. x.0) e ∙ node)) reply)
        | inr bad ↦ absurd bad
      ])

  request_good : (from : ℕ) (stamp : Stamp) → from ≢ i → stamp.node ≡ from
      → IsRequestOk w from stamp → IsSafe (after w i (take_request s stamp))
  request_good from stamp other node ok =
      cond_case (λ d. IsSafe (after w i d)) (is_busy s.phase && is_before_of s.ours stamp)
      (becoming (deferring (seeing s stamp.number) stamp))
      (replied (seeing s stamp.number) stamp)
      (λ _. deferred_good from stamp other node ok)
      (λ free. replied_good from stamp other node ok free)

  -- a reply comes

  counted_good : (from : ℕ) (stamp : Stamp) (top : ℕ) → s.phase ≡ Waiting → stamp ≡ s.ours
      → WasSent w from i (Reply stamp top) → IsSafe (after w i (becoming (counting s from top)))
  counted_good from stamp top waiting same sent =
      let new : Node = counting s from top in
      let done : Done Node (Unit {0}) RicartMsg = becoming new in
      let moves : MovesForward w i s new =
      record {
        highest = omega arith;
        mine = omega arith;
        stamp = λ busy. inl (busy, refl);
        entry = inl refl;
      } in
      let kept = other_after w i s done good at moves i s was_ok in
      let letter : IsReplyOk w from i stamp top = good.letters from i (Reply stamp top) sent in
      good_after w i s done good at moves
      (record {
        me = was_ok.me;
        count = kept.count;
        ours_node = was_ok.ours_node;
        ours_seen = was_ok.ours_seen;
        mine_top = (let l = was_ok.mine_top in omega arith);
        top_reached = reached_after w i s done good at moves (max s.top top)
            (reached_max (λ x. x.mine) w s.top top was_ok.top_reached letter.reached);
        inside_has = λ n inside j jlt ne. absurd (waiting_not_inside s.phase n waiting inside);
        replies = λ busy j has. elim (get_or_after s.got from j true false true has) [
          | inl p ↦ (
            top,
            subst (λ x. IsIn (x, i, Reply s.ours top) (after w i done).sent) (sym p.0)
                (subst (λ x. IsIn (from, i, Reply x top) (after w i done).sent) same
                (in_left (from, i, Reply stamp top) w.sent [] sent)),
            omega arith,
          )
          | inr q ↦ let r =
              kept.replies busy j q in (r.0, r.1, (let le : r.0 ≤ s.top = r.2 in omega arith))
        ];
        waits = kept.waits;
      })
      (λ b m in_none. absurd in_none)

  reply_good : (from : ℕ) (stamp : Stamp) (top : ℕ) → WasSent w from i (Reply stamp top)
      → IsSafe (after w i (take_reply s from stamp top))
  reply_good from stamp top sent =
      cond_case (λ d. IsSafe (after w i d))
      (is_waiting s.phase && (is_same_as stamp s.ours && not (has_reply s from)))
      (becoming (counting s from top)) (becoming s)
      (λ e.
      let p = and_true (is_waiting s.phase) (is_same_as stamp s.ours && not (has_reply s from)) e in
      let q = and_true (is_same_as stamp s.ours) (not (has_reply s from)) p.1 in
      counted_good from stamp top (waiting_is s.phase p.0) (same_stamp stamp s.ours q.0) sent)
      (λ _. ignored)

  pub deliver_good : (from : ℕ) (m : RicartMsg) → WasSent w from i m
      → IsSafe (after w i (deliver_of from m s))
  deliver_good from (Request stamp) sent =
      cond_case (λ d. IsSafe (after w i d)) (is_other s from && nat_eq stamp.node from)
      (take_request s stamp) (becoming s)
      (λ e. let p = and_true (is_other s from) (nat_eq stamp.node from) e in
      request_good from stamp (λ f. (other_is s from p.0).1 (f ∙ sym was_ok.me))
      (eq_true stamp.node from p.1) (good.letters from i (Request stamp) sent))
      (λ _. ignored)
  deliver_good from (Reply stamp top) sent =
      cond_case (λ d. IsSafe (after w i d)) (is_other s from) (take_reply s from stamp top)
      (becoming s)
      (λ _. reply_good from stamp top sent) (λ _. ignored)

  -- enter

  pub waiting_busy : s.phase ≡ Waiting → IsBusy s
  waiting_busy waiting = ap is_busy waiting

  pub has_of_all : HasAllReplies s → (j : ℕ) → j < length w.nodes → j ≢ i → has_reply s j ≡ true
  has_of_all all j lt ne =
      all j (subst (λ x. j < x) (sym was_ok.count) lt) (λ e. ne (e ∙ was_ok.me))

  pub entered_good : s.phase ≡ Waiting → HasAllReplies s
      → IsSafe (after w i (becoming (entering s)))
  entered_good waiting all =
      let new : Node = entering s in
      let done : Done Node (Unit {0}) RicartMsg = becoming new in
      let moves : MovesForward w i s new =
      record {
        highest = omega arith;
        mine = (let l = was_ok.mine_top in omega arith);
        stamp = λ busy. inl (waiting_busy waiting, refl);
        entry = inr (waiting_busy waiting, has_of_all all);
      } in
      let kept = other_after w i s done good at moves i s was_ok in
      good_after w i s done good at moves
      (record {
        me = was_ok.me;
        count = kept.count;
        ours_node = λ busy. was_ok.ours_node (waiting_busy waiting);
        ours_seen = λ busy. was_ok.ours_seen (waiting_busy waiting);
        mine_top = omega arith;
        top_reached = (i, new, get_set_same w.nodes i s new at, omega arith);
        inside_has = λ n inside j lt ne. has_of_all all j
            (subst (λ x. j < x) (length-set w.nodes i new) lt) ne;
        replies = λ busy j has. let r = kept.replies (waiting_busy waiting) j has in
            (r.0, r.1, (let le : r.0 ≤ s.top = r.2 in omega arith));
        waits = kept.waits;
      })
      (λ b m in_none. absurd in_none)

  -- leave and cancel

  ended_moves : MovesForward w i s (ending s)
  ended_moves = record {
    highest = omega arith;
    mine = omega arith;
    stamp = λ busy. absurd (idle_not_busy Idle refl busy);
    entry = inl refl;
  }

  pub ended_good : IsSafe (after w i (ended s))
  ended_good =
      let done : Done Node (Unit {0}) RicartMsg = ended s in
      let kept = other_after w i s done good at ended_moves i s was_ok in
      good_after w i s done good at ended_moves
      (idle_ok (after w i done) i
      (ending s) refl refl was_ok.me kept.count was_ok.mine_top kept.top_reached)
      (λ b m sent.
      let r = in_addressed (reply_deferred s) s.count b m sent in
      let q = sent_reply (deferred_at s b) s.top m r.1 in
      let p = was_ok.waits b q.0 q.1 in
      subst (λ x. IsLetterOk (after w i done) i b x) (sym q.2)
      (record {
        other = λ e. p.0 (sym e);
        issued = seen_after w i s done good at ended_moves b q.0.number p.3;
        seen = seen_self done q.0.number p.2;
        reached = kept.top_reached;
        stands = λ sa tb sat tat busy ours.
            let e = is_new w i s done at i sa refl sat in (
              (let k : sa.mine ≡ s.mine = ap (λ x. x.mine) e in let l = was_ok.mine_top in
                  omega arith),
              λ now. absurd (idle_not_busy sa.phase (ap (λ x. x.phase) e) now),
            );
      }))

  -- tick

  stays : MovesForward w i s s
  stays = record {
    highest = omega arith;
    mine = omega arith;
    stamp = λ busy. inl (busy, refl);
    entry = inl refl;
  }

  ticked_good : IsBusy s → IsSafe (after w i (ticked s))
  ticked_good busy =
      good_after w i s (ticked s) good at stays
      (other_after w i s (ticked s) good at stays i s was_ok)
      (λ b m sent. let r = in_addressed (request_missing s) s.count b m sent in
      subst (λ x. IsLetterOk (after w i (ticked s)) i b x)
      (sym (sent_unless (nat_eq b s.me || has_reply s b) (Request s.ours) m r.1).1)
      (record {
        node = was_ok.ours_node busy;
        issued = seen_self (ticked s) s.ours.number (was_ok.ours_seen busy);
      }))

  pub tick_good : IsSafe (after w i (tick_of s))
  tick_good =
      cond_case (λ d. IsSafe (after w i d)) (is_waiting s.phase) (ticked s) (becoming s)
      (λ e. ticked_good (waiting_busy (waiting_is s.phase e))) (λ _. ignored)
