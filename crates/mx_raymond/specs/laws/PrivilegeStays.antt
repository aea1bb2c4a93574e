-- A step that does not move the privilege keeps a world safe.
use Rattle.std.proofs.Common.{ℕ, ◌<◌, ◌≤◌, ◌≡◌, ◌⊎◌, inl, inr, Some, sym, ◌∙◌, ap, subst, arith}
use Rattle.mx_stamps.specs.Lists.{IsIn}
use Rattle.mx_stamps.proofs.Lists.{dec_eq, get_after}
use Rattle.mx_letters.specs.declared.raymond.RaymondMsg.{RaymondMsg}
use Rattle.mx_letters.specs.declared.raymond.RaymondMsg.TheVariants.{Request, Privilege, Got}
use Rattle.mx_nodelaws.specs.World.{World, Done, becoming, IsNode, WasSent, after}
use Rattle.mx_nodelaws.specs.declared.phase.Phase.TheVariants.{Inside}
use Rattle.mx_nodelaws.proofs.Worlds.{nothing_kept}
use Rattle.mx_nodelaws.proofs.Frame.{is_new, is_old, here_after, sent_after, sent_before}
use Rattle.mx_raymond.specs.declared.unacked.Unacked.{Unacked}
use Rattle.mx_raymond.specs.Node.{Node}
use Rattle.mx_raymond.specs.Good.{IsReached, IsLast, HasSeen, IsPrivilegeOk, IsLetterOk, IsHeld, IsUnderWay, IsSafeAt, IsSafe}
use Rattle.mx_raymond.specs.laws.Frame.{MovesForward, seen_after, reached_after, last_after, letter_after, safe_after}

-- a step that moves no privilege: `holder`, `hop`, `top` and `mine` stay, and each privilege that
-- it sends was sent before
pub record KeepsPrivilege {A : Type 0} (w : World Node RaymondMsg) (i : ℕ) (s : Node)
    (done : Done Node A RaymondMsg) : Type 0 where
  pub me : done.state.me ≡ s.me
  pub holder : done.state.holder ≡ s.holder
  pub hop : done.state.hop ≡ s.hop
  pub top : done.state.top ≡ s.top
  pub mine : done.state.mine ≡ s.mine
  pub inside : (n : ℕ) → done.state.phase ≡ Inside n → s.phase ≡ Inside n
  pub unacked : (u : Unacked) → done.state.unacked ≡ Some u → s.unacked ≡ Some u
  pub letters : (b hop last : ℕ) → IsIn (b, Privilege hop last) done.letters
      → WasSent w i b (Privilege hop last)

module _ (w : World Node RaymondMsg) (i : ℕ) (s : Node) (at : IsNode w i s) where
  -- what such a step keeps

  module _ {A : Type 0} (done : Done Node A RaymondMsg) (highest : ℕ) (safe : IsSafeAt w highest)
      (stays : KeepsPrivilege w i s done) where
    stays_rises : MovesForward s done.state
    stays_rises = record {
      hop = (let e = stays.hop in omega arith);
      mine =
          (let e = stays.mine in omega arith);
    }

    stays_seen : (b hop : ℕ) → HasSeen w b hop → HasSeen (after w i done) b hop
    stays_seen = seen_after w i s done at stays_rises

    stays_last : (n : ℕ) → IsLast w n → IsLast (after w i done) n
    stays_last n last = last_after w i s done at stays_rises n
        (let k : s.mine ≤ n = last i s at in let e = stays.mine in omega arith) last

    stays_sent : (a b hop last : ℕ) → WasSent (after w i done) a b (Privilege hop last)
        → WasSent w a b (Privilege hop last)
    stays_sent a b hop last sent = elim (sent_before w i s done at a b (Privilege hop last) sent) [
      | inl old ↦ old
      | inr new ↦ subst (λ x. WasSent w x b (Privilege hop last)) (sym new.0)
          (stays.letters b hop last new.1)
    ]

    -- a node that is its own holder after the step was so before
    stays_holder : (j : ℕ) (t : Node) → IsNode (after w i done) j t → t.holder ≡ j → (u : Node)
        × (IsNode w j u) × (u.holder ≡ j)
    stays_holder j t tat e = elim (dec_eq j i) [
      | inl same ↦ (
        s,
        subst (λ x. IsNode w x s) (sym same) at,
        sym stays.holder
            ∙ sym (ap (λ x. x.holder) (is_new w i s done at j t same tat)) ∙ e,
      )
      | inr ne ↦ (t, is_old w i s done at j t ne tat, e)
    ]

    stays_privilege : IsHeld w highest ⊎ IsUnderWay w highest → IsHeld (after w i done) highest
        ⊎ IsUnderWay (after w i done) highest
    stays_privilege (inl h) = inl (record {
      node = h.node;
      here = here_after w i s done at h.node h.here;
      holder = λ t tat. elim (get_after w.nodes i h.node s done.state t at tat) [
        | inl p ↦ ap (λ x. x.holder) p.1 ∙ stays.holder
            ∙ h.holder s (subst (λ x. IsNode w x s) (sym p.0) at)
        | inr p ↦ h.holder t p.1
      ];
      hop = λ t tat. elim (get_after w.nodes i h.node s done.state t at tat) [
        | inl p ↦ ap (λ x. x.hop) p.1 ∙ stays.hop ∙ h.hop s (subst (λ x. IsNode w x s) (sym p.0) at)
        | inr p ↦ h.hop t p.1
      ];
      top = λ t tat. elim (get_after w.nodes i h.node s done.state t at tat) [
        | inl p ↦ subst (λ x. IsLast (after w i done) x) (sym (ap (λ x. x.top) p.1 ∙ stays.top))
            (stays_last s.top (h.top s (subst (λ x. IsNode w x s) (sym p.0) at)))
        | inr p ↦ stays_last t.top (h.top t p.1)
      ];
      alone = λ j t tat e. let r = stays_holder j t tat e in h.alone j r.0 r.1 r.2;
      seen = λ a b last sent. stays_seen b highest
          (h.seen a b last (stays_sent a b highest last sent));
    })
    stays_privilege (inr u) = inr (record {
      from = u.from;
      to = u.to;
      last = u.last;
      sent = sent_after w i s done at u.from u.to (Privilege highest u.last) u.sent;
      only = λ a b c sent. u.only a b c (stays_sent a b highest c sent);
      unseen = λ t tat. elim (get_after w.nodes i u.to s done.state t at tat) [
        | inl p ↦ (let k : s.hop < highest = u.unseen s (subst (λ x. IsNode w x s) (sym p.0) at) in
            let e : t.hop ≡ s.hop = ap (λ x. x.hop) p.1 ∙ stays.hop in omega arith)
        | inr p ↦ u.unseen t p.1
      ];
      top = stays_last u.last u.top;
      nobody = λ j t tat e. let r = stays_holder j t tat e in u.nobody j r.0 r.1 r.2;
    })

    older_same : (a b hop last : ℕ) → WasSent w a b (Privilege hop last) → hop < highest
        → HasSeen w b hop
    older_same a b hop last sent lt =
        let ok : IsPrivilegeOk w highest b hop last = safe.letters a b (Privilege hop last) sent in
        ok.seen lt

    stays_letter : (b : ℕ) (m : RaymondMsg) → IsIn (b, m) done.letters
        → IsLetterOk (after w i done) highest b m
    stays_letter b (Request number) new = tt
    stays_letter b (Privilege hop last) new =
        letter_after w i s done at stays_rises highest highest safe (omega arith) older_same i b
        (Privilege hop last) (stays.letters b hop last new)
    stays_letter b (Got hop) new = tt

    pub stays_kept : IsSafeAt (after w i done) highest
    stays_kept =
        let ok = safe.nodes i s at in
        safe_after w i s done at stays_rises highest highest safe (omega arith) older_same
        (record {
          me = stays.me ∙ ok.me;
          hop = (let k = ok.hop in let e = stays.hop in omega arith);
          mine_top =
              (let k = ok.mine_top in let e = stays.top in let f = stays.mine in omega arith);
          top_reached = subst (λ x. IsReached (after w i done) x) (sym stays.top)
              (reached_after w i s done at stays_rises s.top ok.top_reached);
          inside_holds = λ n e. stays.holder ∙ ok.inside_holds n (stays.inside n e);
          unacked_sent = λ u e. sent_after w i s done at i u.to (Privilege u.hop u.last)
              (ok.unacked_sent u (stays.unacked u e));
        })
        stays_letter
        (stays_privilege safe.privilege)

  pub stays_safe : {A : Type 0} (done : Done Node A RaymondMsg) → IsSafe w
      → KeepsPrivilege w i s done → IsSafe (after w i done)
  stays_safe done safe stays =
      record { highest = safe.highest; at = stays_kept done safe.highest safe.at stays }

  -- a step that changes nothing and sends nothing
  pub still_safe : IsSafe w → IsSafe (after w i (becoming s))
  still_safe safe = nothing_kept {A = Unit {0}} IsSafe w i s tt safe at
