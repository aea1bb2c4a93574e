-- What a step of one node does not change.
use Rattle.std.proofs.Common.{ℕ, ◌<◌, ◌≤◌, ◌⊎◌, inl, inr, sym, subst, arith}
use Rattle.mx_stamps.specs.Lists.{IsIn}
use Rattle.mx_stamps.proofs.Lists.{get_after}
use Rattle.mx_letters.specs.declared.raymond.RaymondMsg.{RaymondMsg}
use Rattle.mx_letters.specs.declared.raymond.RaymondMsg.TheVariants.{Request, Privilege, Got}
use Rattle.mx_nodelaws.specs.World.{World, Done, IsNode, WasSent, after}
use Rattle.mx_nodelaws.proofs.Frame.{each_after, sent_after, sent_before, still_reached, still_come}
use Rattle.mx_raymond.specs.Node.{Node}
use Rattle.mx_raymond.specs.Good.{IsReached, IsLast, HasSeen, IsNodeOk, IsPrivilegeOk, IsLetterOk, IsHeld, IsUnderWay, IsSafeAt}

-- how a step may change a node: `hop` and `mine` do not fall
pub record MovesForward (s new : Node) : Type 0 where
  pub hop : s.hop ≤ new.hop
  pub mine : s.mine ≤ new.mine

module _ {A : Type 0} (w : World Node RaymondMsg) (i : ℕ) (s : Node) (done : Done Node A RaymondMsg)
    (at : IsNode w i s) (rises : MovesForward s done.state) where
  pub seen_after : (j hop : ℕ) → HasSeen w j hop → HasSeen (after w i done) j hop
  seen_after j hop h = still_come w i s done at (λ x. x.hop) rises.hop j hop h

  pub reached_after : (n : ℕ) → IsReached w n → IsReached (after w i done) n
  reached_after n h = still_reached w i s done at (λ x. x.mine) rises.mine n h

  pub last_after : (n : ℕ) → done.state.mine ≤ n → IsLast w n → IsLast (after w i done) n
  last_after n le h j = each_after w i s done at (λ t. t.mine ≤ n) j (h j) (λ e was. le)

  module _ (highest higher : ℕ) (safe : IsSafeAt w highest) (up : highest ≤ higher)
      (older : (a b hop last : ℕ) → WasSent w a b (Privilege hop last) → hop < higher
      → HasSeen w b hop) where
    pub other_after : (j : ℕ) (t : Node) → IsNodeOk w highest j t
        → IsNodeOk (after w i done) higher j t
    other_after j t ok = record {
      me = ok.me;
      hop = (let k = ok.hop in omega arith);
      mine_top = ok.mine_top;
      top_reached = reached_after t.top ok.top_reached;
      inside_holds = ok.inside_holds;
      unacked_sent =
          λ u e. sent_after w i s done at j u.to (Privilege u.hop u.last) (ok.unacked_sent u e);
    }

    pub letter_after : (a b : ℕ) (m : RaymondMsg) → WasSent w a b m
        → IsLetterOk (after w i done) higher b m
    letter_after a b (Request number) sent = tt
    letter_after a b (Privilege hop last) sent =
        let ok : IsPrivilegeOk w highest b hop last = safe.letters a b (Privilege hop last) sent in
        record {
          low = (let k = ok.low in omega arith);
          reached = reached_after last ok.reached;
          seen = λ lt. seen_after b hop (older a b hop last sent lt);
        }
    letter_after a b (Got hop) sent = tt

    -- a world is safe after a step if the node's new state, its new letters and the place of the
    -- privilege are as they should be
    pub safe_after : IsNodeOk (after w i done) higher i done.state
        → ((b : ℕ) (m : RaymondMsg) → IsIn (b, m) done.letters
        → IsLetterOk (after w i done) higher b m) → IsHeld (after w i done) higher
        ⊎ IsUnderWay (after w i done) higher → IsSafeAt (after w i done) higher
    safe_after node letters privilege = record {
      nodes = λ j t tat. elim (get_after w.nodes i j s done.state t at tat) [
        | inl p ↦ subst (λ x. IsNodeOk (after w i done) higher x t) (sym p.0)
            (subst (λ x. IsNodeOk (after w i done) higher i x) (sym p.1) node)
        | inr p ↦ other_after j t (safe.nodes j t p.1)
      ];
      letters = λ a b m sent. elim (sent_before w i s done at a b m sent) [
        | inl old ↦ letter_after a b m old
        | inr new ↦ letters b m new.1
      ];
      privilege = privilege;
    }
