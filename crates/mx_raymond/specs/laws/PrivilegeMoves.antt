-- The three steps that concern the privilege keep a world safe: it is passed on, it arrives, its
-- holder enters.
use Rattle.std.proofs.Common.{ℕ, ◌<◌, ◌≤◌, ◌+◌, ◌≡◌, ◌≢◌, inl, inr, [], ◌∷◌, max, refl, sym, ◌∙◌, ap, subst, arith}
use Rattle.std.proofs.lemmas.Option.{same_Some, slice_get_within}
use Rattle.mx_stamps.specs.Lists.{IsIn}
use Rattle.mx_stamps.proofs.Lists.{dec_eq, in_right}
use Rattle.mx_stamps.proofs.Choices.{dec_le}
use Rattle.mx_letters.specs.declared.raymond.RaymondMsg.{RaymondMsg}
use Rattle.mx_letters.specs.declared.raymond.RaymondMsg.TheVariants.{Request, Privilege, Got}
use Rattle.mx_nodelaws.specs.World.{World, Done, IsNode, WasSent, after}
use Rattle.mx_nodelaws.proofs.Phases.{not_inside}
use Rattle.mx_nodelaws.proofs.Frame.{itself, is_new, is_old, here_after, sent_after, sent_before, reached_max, at_as}
use Rattle.mx_raymond.specs.declared.unacked.Unacked.{Unacked}
use Rattle.mx_raymond.specs.Node.{Node}
use Rattle.mx_raymond.specs.Step.{passing, passed, holding, acknowledging, entering}
use Rattle.mx_raymond.specs.Good.{IsLast, HasSeen, IsNodeOk, IsPrivilegeOk, IsLetterOk, IsHeld, IsUnderWay, IsSafeAt}
use Rattle.mx_raymond.specs.laws.Tests.{MayPass}
use Rattle.mx_raymond.specs.laws.Frame.{MovesForward, seen_after, reached_after, last_after, safe_after}

module _ (w : World Node RaymondMsg) (i : ℕ) (s : Node) (at : IsNode w i s) (highest : ℕ)
    (safe : IsSafeAt w highest) where
  ok : IsNodeOk w highest i s
  ok = safe.nodes i s at

  seen_below : (a b hop last : ℕ) → WasSent w a b (Privilege hop last) → hop < highest
      → HasSeen w b hop
  seen_below a b hop last sent lt =
      let p : IsPrivilegeOk w highest b hop last = safe.letters a b (Privilege hop last) sent in
      p.seen lt

  -- a node that is its own holder is the one that has the privilege
  pub holds : s.holder ≡ i → (h : IsHeld w highest) × (h.node ≡ i)
  holds e = elim safe.privilege [
    | inl h ↦ (h, sym (h.alone i s at e))
    | inr u ↦ absurd (u.nobody i s at e)
  ]

  -- Assign

  module _ (next : ℕ) (may : MayPass s next) (held : IsHeld w highest) (mine : held.node ≡ i) where
    abbrev gone : World Node RaymondMsg
    gone = after w i (passed s next)

    rises : MovesForward s (passing s next)
    rises = record { hop = omega arith; mine = omega arith }

    top_hop : s.hop ≡ highest
    top_hop = held.hop s (at_as w i s at held.node mine)

    knows : IsLast w s.top
    knows = held.top s (at_as w i s at held.node mine)

    next_not_i : next ≢ i
    next_not_i e = may.other (e ∙ sym ok.me)

    older : (a b hop last : ℕ) → WasSent w a b (Privilege hop last) → hop < highest + 1
        → HasSeen w b hop
    older a b hop last sent lt = elim (dec_le highest hop) [
      | inl le ↦ let e : hop ≡ highest = omega arith in
          subst (λ x. HasSeen w b x) (sym e) (held.seen a b last
          (subst (λ x. WasSent w a b (Privilege x last)) e sent))
      | inr below ↦ seen_below a b hop last sent below
    ]

    sent_now : WasSent gone i next (Privilege (s.hop + 1) s.top)
    sent_now = in_right (i, next, Privilege (s.hop + 1) s.top) w.sent
        ((i, next, Privilege (s.hop + 1) s.top) ∷ []) (inl refl)

    letters_now : (b : ℕ) (m : RaymondMsg) → IsIn (b, m) (passed s next).letters
        → IsLetterOk gone (highest + 1) b m
    letters_now b m (inl e) =
        let c : m ≡ Privilege (s.hop + 1) s.top = ap (λ x. x.1) e in
        subst (λ x. IsLetterOk gone (highest + 1) b x) (sym c) (record {
          low = (let k = top_hop in omega arith);
          reached = reached_after w i s (passed s next) at rises s.top ok.top_reached;
          seen = λ lt. (let k = top_hop in absurd (omega arith));
        })
    letters_now b m (inr none) = absurd none

    under_way : IsUnderWay gone (highest + 1)
    under_way = record {
      from = i;
      to = next;
      last = s.top;
      sent = subst (λ x. WasSent gone i next (Privilege x s.top))
          (let k = top_hop in let e : s.hop + 1 ≡ highest + 1 = omega arith in e) sent_now;
      only = λ a b c sent. elim (sent_before w i s (passed s next) at a b
          (Privilege (highest + 1) c) sent) [
            | inl old ↦ let p : IsPrivilegeOk w highest b (highest + 1) c =
                safe.letters a b (Privilege (highest + 1) c) old in let k = p.low in
                absurd (omega arith)
            | inr now ↦ elim now.1 [
              | inl e ↦ let m : Privilege (highest + 1) c ≡ Privilege (s.hop + 1) s.top =
                  ap (λ x. x.1) e in let l : c ≡ s.top = cc in (now.0, ap (λ x. x.0) e, l)
              | inr none ↦ absurd none
            ]
          ];
      unseen = λ t tat. let old : IsNodeOk w highest next t =
          safe.nodes next t (is_old w i s (passed s next) at next t next_not_i tat) in let k =
          old.hop in omega arith;
      top = last_after w i s (passed s next) at rises s.top ok.mine_top knows;
      nobody = λ j t tat e. elim (dec_eq j i) [
        | inl same ↦ next_not_i (sym (ap (λ x. x.holder)
            (is_new w i s (passed s next) at j t same tat)) ∙ e ∙ same)
        | inr ne ↦ ne (held.alone j t (is_old w i s (passed s next) at j t ne tat) e ∙ mine)
      ];
    }

    pub passed_kept : IsSafeAt gone (highest + 1)
    passed_kept =
        safe_after w i s (passed s next) at rises highest (highest + 1) safe (omega arith) older
        (record {
          me = ok.me;
          hop = (let k = top_hop in omega arith);
          mine_top = ok.mine_top;
          top_reached = reached_after w i s (passed s next) at rises s.top ok.top_reached;
          inside_holds = λ n e. absurd (not_inside s.phase n may.outside e);
          unacked_sent = λ u e. subst (λ x. WasSent gone i x.to (Privilege x.hop x.last))
              (same_Some {A = Unacked}
              (record { to = next; hop = s.hop + 1; last = s.top }) u e) sent_now;
        })
        letters_now
        (inr under_way)

  -- a new privilege

  module _ (from hop last : ℕ) (sent : WasSent w from i (Privilege hop last))
      (fresh : s.hop < hop) where
    abbrev arrived : World Node RaymondMsg
    arrived = after w i (acknowledging (holding s hop last) from hop)

    abbrev comes : Done Node (Unit {0}) RaymondMsg
    comes = acknowledging (holding s hop last) from hop

    letter : IsPrivilegeOk w highest i hop last
    letter = safe.letters from i (Privilege hop last) sent

    highest_hop : hop ≡ highest
    highest_hop = elim (dec_le highest hop) [
      | inl le ↦ let k = letter.low in omega arith
      | inr lt ↦ let k : hop ≤ s.hop = letter.seen lt s at in absurd (omega arith)
    ]

    sent_highest : WasSent w from i (Privilege highest last)
    sent_highest = subst (λ x. WasSent w from i (Privilege x last)) highest_hop sent

    under : IsUnderWay w highest
    under = elim safe.privilege [
      | inl h ↦ let k : highest ≤ s.hop = h.seen from i last sent_highest s at in let e =
          highest_hop in absurd (omega arith)
      | inr u ↦ u
    ]

    comes_rises : MovesForward s (holding s hop last)
    comes_rises = record { hop = omega arith; mine = omega arith }

    no_privilege : (b : ℕ) (h c : ℕ) → IsIn (b, Privilege h c) comes.letters → ⊥
    no_privilege b h c (inl e) = let m : Privilege h c ≡ Got hop = ap (λ x. x.1) e in cc
    no_privilege b h c (inr none) = absurd none

    comes_letters : (b : ℕ) (m : RaymondMsg) → IsIn (b, m) comes.letters
        → IsLetterOk arrived highest b m
    comes_letters b (Request number) new = tt
    comes_letters b (Privilege h c) new = absurd (no_privilege b h c new)
    comes_letters b (Got h) new = tt

    is_last : IsLast w (max s.top last)
    is_last j t tat = let k : t.mine ≤ under.last = under.top j t tat in let e : last ≡ under.last =
        (under.only from i last sent_highest).2 in omega arith

    held_now : IsHeld arrived highest
    held_now = record {
      node = i;
      here = here_after w i s comes at i (slice_get_within w.nodes i s at);
      holder = λ t tat. ap (λ x. x.holder) (is_new w i s comes at i t refl tat) ∙ ok.me;
      hop = λ t tat. ap (λ x. x.hop) (is_new w i s comes at i t refl tat) ∙ highest_hop;
      top = λ t tat. subst (λ x. IsLast arrived x)
          (sym (ap (λ x. x.top) (is_new w i s comes at i t refl tat)))
          (last_after w i s comes at comes_rises (max s.top last)
          (let k = ok.mine_top in omega arith) is_last);
      alone = λ j t tat e. elim (dec_eq j i) [
        | inl same ↦ same
        | inr ne ↦ absurd (under.nobody j t (is_old w i s comes at j t ne tat) e)
      ];
      seen = λ a b c was. elim (sent_before w i s comes at a b (Privilege highest c) was) [
        | inl old ↦ λ t tat.
            let e : b ≡ i = (under.only a b c old).1
            ∙ sym (under.only from i last sent_highest).1 in
            let h : t.hop ≡ hop = ap (λ x. x.hop) (is_new w i s comes at b t e tat) in
            let k = highest_hop in omega arith
        | inr now ↦ absurd (no_privilege b highest c now.1)
      ];
    }

    pub arrived_kept : IsSafeAt arrived highest
    arrived_kept =
        safe_after w i s comes at comes_rises highest highest safe (omega arith) seen_below
        (record {
          me = ok.me;
          hop = (let k = highest_hop in omega arith);
          mine_top = (let k = ok.mine_top in omega arith);
          top_reached = reached_after w i s comes at comes_rises (max s.top last)
              (reached_max (λ x. x.mine) w s.top last ok.top_reached letter.reached);
          inside_holds = λ n e. ok.me;
          unacked_sent = λ u e. let bad : ⊥ = cc in absurd bad;
        })
        comes_letters
        (inl held_now)

  -- enter

  module _ {A : Type 0} (answer : A) (holder : s.holder ≡ i) (held : IsHeld w highest)
      (mine : held.node ≡ i) where
    abbrev enters : Done Node A RaymondMsg
    enters = record { state = entering s; answer = answer; letters = [] }

    enters_rises : MovesForward s (entering s)
    enters_rises = record { hop = omega arith; mine = (let k = ok.mine_top in omega arith) }

    old_privilege : (a b hop last : ℕ) → WasSent (after w i enters) a b (Privilege hop last)
        → WasSent w a b (Privilege hop last)
    old_privilege a b hop last sent = elim
        (sent_before w i s enters at a b (Privilege hop last) sent) [
          | inl old ↦ old
          | inr now ↦
              absurd now.1
        ]

    is_last_now : IsLast (after w i enters) (s.top + 1)
    is_last_now = last_after w i s enters at enters_rises (s.top + 1) (omega arith)
        (λ j t tat. let k : t.mine ≤ s.top = held.top s (at_as w i s at held.node mine) j t tat in
        omega arith)

    held_inside : IsHeld (after w i enters) highest
    held_inside = record {
      node = i;
      here = here_after w i s enters at i (slice_get_within w.nodes i s at);
      holder = λ t tat. ap (λ x. x.holder) (is_new w i s enters at i t refl tat) ∙ holder;
      hop = λ t tat. ap (λ x. x.hop) (is_new w i s enters at i t refl tat)
          ∙ held.hop s (at_as w i s at held.node mine);
      top = λ t tat. subst (λ x. IsLast (after w i enters) x)
          (sym (ap (λ x. x.top) (is_new w i s enters at i t refl tat))) is_last_now;
      alone = λ j t tat e. elim (dec_eq j i) [
        | inl same ↦ same
        | inr ne ↦ held.alone j t (is_old w i s enters at j t ne tat) e ∙ mine
      ];
      seen = λ a b c was. seen_after w i s enters at enters_rises b highest
          (held.seen a b c (old_privilege a b highest c was));
    }

    pub entered_kept : IsSafeAt (after w i enters) highest
    entered_kept =
        safe_after w i s enters at enters_rises highest highest safe (omega arith) seen_below
        (record {
          me = ok.me;
          hop = ok.hop;
          mine_top = omega arith;
          top_reached = (i, entering s, itself w i s enters at, omega arith);
          inside_holds = λ n e. holder;
          unacked_sent = λ u e. sent_after w i s enters at i u.to (Privilege u.hop u.last)
              (ok.unacked_sent u e);
        })
        (λ b m none. absurd none)
        (inl held_inside)
