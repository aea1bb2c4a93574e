-- Each row of the step table keeps a world safe.
use Rattle.std.proofs.Common.{ℕ, ◌+◌, ◌≡◌, inl, inr, Bool, true, false, cond, not, ◌&&◌, List, [], ◌∷◌, Option, Some, None, nat_eq, nat_lt, refl, sym, ◌∙◌, ap, subst}
use Rattle.mx_stamps.specs.declared.stamp.Stamp.{Stamp}
use Rattle.mx_stamps.specs.Lists.{IsIn}
use Rattle.mx_stamps.proofs.Lists.{in_append}
use Rattle.mx_stamps.proofs.Choices.{lt_true, cond_case}
use Rattle.mx_letters.specs.declared.raymond.RaymondMsg.{RaymondMsg}
use Rattle.mx_letters.specs.declared.raymond.RaymondMsg.TheVariants.{Request, Privilege, Got}
use Rattle.mx_nodelaws.specs.World.{World, answering, becoming, and_then, IsNode, WasSent, after}
use Rattle.mx_nodelaws.specs.declared.phase.Phase.TheVariants.{Idle, Inside}
use Rattle.mx_nodelaws.proofs.Worlds.{after_twice}
use Rattle.mx_nodelaws.proofs.Frame.{itself}
use Rattle.mx_raymond.specs.declared.unacked.Unacked.{Unacked}
use Rattle.mx_raymond.specs.Queue.{head_of, without}
use Rattle.mx_raymond.specs.Node.{Node}
use Rattle.mx_raymond.specs.Step.{NodeDone, is_holder, has_permission, can_pass, passed, assign_privilege_to, assign_privilege, must_request, requested, make_request, serving, asking, asked, privilege_again, take_holders_request, heard_from, queueing, take_others_request, take_request, holding, acknowledging, take_privilege, is_unacked, take_got, is_neighbour, deliver_of, entering, left, cancelled, request_again, tick_of}
use Rattle.mx_raymond.specs.Good.{IsNodeOk, IsSafe}
use Rattle.mx_raymond.specs.laws.Tests.{permission_holds, may_pass}
use Rattle.mx_raymond.specs.laws.PrivilegeStays.{KeepsPrivilege, stays_safe, still_safe}
use Rattle.mx_raymond.specs.laws.PrivilegeMoves.{holds, passed_kept, arrived_kept, entered_kept}

-- a list of one request has no privilege in it
only_request : (to b hop last number : ℕ)
    → IsIn {X = ℕ × RaymondMsg} (b, Privilege hop last) ((to, Request number) ∷ []) → ⊥
only_request to b hop last number (inl e) =
    let m : Privilege hop last ≡ Request number = ap (λ x. x.1) e in cc
only_request to b hop last number (inr none) = absurd none

only_got : (to b hop last gone : ℕ) → IsIn {X = ℕ × RaymondMsg} (b, Privilege hop last)
    ((to, Got gone) ∷ []) → ⊥
only_got to b hop last gone (inl e) = let m : Privilege hop last ≡ Got gone = ap (λ x. x.1) e in cc
only_got to b hop last gone (inr none) = absurd none

module _ (w : World Node RaymondMsg) (i : ℕ) (s : Node) (at : IsNode w i s) (safe : IsSafe w) where
  -- a step that sends nothing, and changes these parts of the state in these ways only, moves no
  -- privilege
  quiet_stays : {A : Type 0} (state : Node) (answer : A) → state.me ≡ s.me → state.holder ≡ s.holder
      → state.hop ≡ s.hop → state.top ≡ s.top → state.mine ≡ s.mine
      → ((n : ℕ) → state.phase ≡ Inside n → s.phase ≡ Inside n)
      → ((u : Unacked) → state.unacked ≡ Some u → s.unacked ≡ Some u)
      → KeepsPrivilege w i s (answering (becoming state) answer)
  quiet_stays state answer me holder hop top mine inside unacked = record {
    me = me;
    holder = holder;
    hop = hop;
    top = top;
    mine = mine;
    inside = inside;
    unacked = unacked;
    letters = λ b h c none. absurd none;
  }

  -- a privilege that is sent again was sent before
  again_sent : (o : Option Unacked) → s.unacked ≡ o → (b hop last : ℕ)
      → IsIn (b, Privilege hop last) (privilege_again o) → WasSent w i b (Privilege hop last)
  again_sent None e b hop last none = absurd none
  again_sent (Some u) e b hop last (inl p) =
      let ok : IsNodeOk w safe.highest i s = safe.at.nodes i s at in
      subst (λ x. WasSent w i x.0 x.1) (sym p) (ok.unacked_sent u e)
  again_sent (Some u) e b hop last (inr none) = absurd none

  -- Assign

  assign_to_safe : (o : Option ℕ) → IsSafe (after w i (assign_privilege_to o s))
  assign_to_safe None = still_safe w i s at safe
  assign_to_safe (Some next) =
      let P : NodeDone (Unit {0}) → Type 0 = λ d. IsSafe (after w i d) in
      cond_case P (can_pass s next) (passed s next) (becoming s)
      (λ e.
      let may = may_pass s next e in
      let ok : IsNodeOk w safe.highest i s = safe.at.nodes i s at in
      let h = holds w i s at safe.highest safe.at (may.holder ∙ ok.me) in
      record {
        highest = safe.highest + 1;
        at = passed_kept w i s at safe.highest safe.at next may h.0 h.1;
      })
      (λ _. still_safe w i s at safe)

  assign_safe : IsSafe (after w i (assign_privilege s))
  assign_safe = assign_to_safe (head_of s.queue)

  -- Make

  make_safe : IsSafe (after w i (make_request s))
  make_safe =
      let P : NodeDone (Unit {0}) → Type 0 = λ d. IsSafe (after w i d) in
      cond_case P (must_request s) (requested s) (becoming s)
      (λ _. stays_safe w i s at (requested s) safe (record {
        me = refl;
        holder = refl;
        hop = refl;
        top = refl;
        mine = refl;
        inside = λ n e. e;
        unacked = λ u e. e;
        letters = λ b hop last sent. absurd (only_request s.holder b hop last (s.sent + 1) sent);
      }))
      (λ _. still_safe w i s at safe)

-- a safe step followed by one that keeps each world safe is safe
then_safe : {A : Type 0} (w : World Node RaymondMsg) (i : ℕ) (s : Node) (at : IsNode w i s)
    (first : NodeDone A) (second : Node → NodeDone (Unit {0}))
    → ((v : World Node RaymondMsg) (t : Node) → IsNode v i t → IsSafe v
    → IsSafe (after v i (second t))) → IsSafe (after w i first)
    → IsSafe (after w i (and_then first second))
then_safe w i s at first second keeps safe =
    subst (λ v. IsSafe v) (after_twice w i first (second first.state))
    (keeps (after w i first) first.state (itself w i s first at) safe)

serving_safe : {A : Type 0} (w : World Node RaymondMsg) (i : ℕ) (s : Node) (at : IsNode w i s)
    (step : NodeDone A) → IsSafe (after w i step) → IsSafe (after w i (serving step))
serving_safe w i s at step safe =
    then_safe w i s at (and_then step assign_privilege) make_request
    (λ v t tat ok. make_safe v i t tat ok)
    (then_safe w i s at step assign_privilege (λ v t tat ok. assign_safe v i t tat ok) safe)

module _ (w : World Node RaymondMsg) (i : ℕ) (s : Node) (at : IsNode w i s) (safe : IsSafe w) where
  -- ask

  pub asked_safe : IsSafe (after w i (asked s))
  asked_safe =
      let first : NodeDone Stamp = answering (becoming (asking s))
      (record { number = s.asks + 1; node = s.me }) in
      serving_safe w i s at first (stays_safe w i s at first safe
      (quiet_stays w i s at safe (asking s) first.answer refl refl refl refl refl
      (λ n f. let bad : ⊥ = cc in absurd bad) (λ u f. f)))

  -- a request comes

  holders_request_safe : IsSafe (after w i (take_holders_request s))
  holders_request_safe = stays_safe w i s at (take_holders_request s) safe (record {
    me = refl;
    holder = refl;
    hop = refl;
    top = refl;
    mine = refl;
    inside = λ n e. e;
    unacked = λ u e. e;
    letters = again_sent w i s at safe s.unacked refl;
  })

  others_request_safe : (from number : ℕ) → IsSafe (after w i (take_others_request from number s))
  others_request_safe from number =
      let P : NodeDone (Unit {0}) → Type 0 = λ d. IsSafe (after w i d) in
      let first : NodeDone (Unit {0}) = becoming (queueing s from number) in
      cond_case P (nat_lt (heard_from s from) number) (serving first) (becoming s)
      (λ _. serving_safe w i s at first (stays_safe w i s at first safe
      (quiet_stays w i s at safe (queueing s from number) tt refl refl refl refl refl (λ n f. f)
      (λ u f. f))))
      (λ _. still_safe w i s at safe)

  request_safe : (from number : ℕ) → IsSafe (after w i (take_request from number s))
  request_safe from number =
      let P : NodeDone (Unit {0}) → Type 0 = λ d. IsSafe (after w i d) in
      cond_case P (nat_eq from s.holder) (take_holders_request s)
      (take_others_request from number s)
      (λ _. holders_request_safe) (λ _. others_request_safe from number)

  -- a privilege comes

  told_safe : (from hop : ℕ) → IsSafe (after w i (acknowledging s from hop))
  told_safe from hop = stays_safe w i s at (acknowledging s from hop) safe (record {
    me = refl;
    holder = refl;
    hop = refl;
    top = refl;
    mine = refl;
    inside = λ n e. e;
    unacked = λ u e. e;
    letters = λ b h c sent. absurd (only_got from b h c hop sent);
  })

  privilege_safe : (from hop last : ℕ) → WasSent w from i (Privilege hop last)
      → IsSafe (after w i (take_privilege from hop last s))
  privilege_safe from hop last sent =
      let P : NodeDone (Unit {0}) → Type 0 = λ d. IsSafe (after w i d) in
      let first : NodeDone (Unit {0}) = acknowledging (holding s hop last) from hop in
      cond_case P (nat_lt s.hop hop) (serving first) (acknowledging s from hop)
      (λ e. serving_safe w i s at first
      (record {
        highest = safe.highest;
        at = arrived_kept w i s at safe.highest safe.at from hop last sent (lt_true s.hop hop e);
      }))
      (λ _. told_safe from hop)

  -- an acknowledgement comes

  got_safe : (from hop : ℕ) → IsSafe (after w i (take_got from hop s))
  got_safe from hop =
      let P : NodeDone (Unit {0}) → Type 0 = λ d. IsSafe (after w i d) in
      let first : NodeDone (Unit {0}) = becoming (record s { unacked = None }) in
      cond_case P (is_unacked s.unacked from hop) first (becoming s)
      (λ _. stays_safe w i s at first safe
      (quiet_stays w i s at safe (record s { unacked = None }) tt refl refl refl refl refl
      (λ n f. f) (λ u f. let bad : ⊥ = cc in absurd bad)))
      (λ _. still_safe w i s at safe)

  pub deliver_safe : (from : ℕ) (m : RaymondMsg) → WasSent w from i m
      → IsSafe (after w i (deliver_of from m s))
  deliver_safe from (Request number) sent =
      let P : NodeDone (Unit {0}) → Type 0 = λ d. IsSafe (after w i d) in
      cond_case P (is_neighbour s from) (take_request from number s) (becoming s)
      (λ _. request_safe from number) (λ _. still_safe w i s at safe)
  deliver_safe from (Privilege hop last) sent =
      let P : NodeDone (Unit {0}) → Type 0 = λ d. IsSafe (after w i d) in
      cond_case P (is_neighbour s from) (take_privilege from hop last s) (becoming s)
      (λ _. privilege_safe from hop last sent) (λ _. still_safe w i s at safe)
  deliver_safe from (Got hop) sent =
      let P : NodeDone (Unit {0}) → Type 0 = λ d. IsSafe (after w i d) in
      cond_case P (is_neighbour s from) (take_got from hop s) (becoming s)
      (λ _. got_safe from hop) (λ _. still_safe w i s at safe)

  -- enter

  pub entering_safe : has_permission s ≡ true → IsSafe (after w i (becoming (entering s)))
  entering_safe has =
      let ok : IsNodeOk w safe.highest i s = safe.at.nodes i s at in
      let mine = permission_holds s has ∙ ok.me in
      let h = holds w i s at safe.highest safe.at mine in
      record {
        highest = safe.highest;
        at = entered_kept w i s at safe.highest safe.at {A = Unit {0}} tt mine h.0 h.1;
      }

  -- leave and cancel: the node becomes idle, with any queue

  rested_safe : (queue : List ℕ) → IsSafe
      (after w i (serving (becoming (record s { phase = Idle; queue = queue }))))
  rested_safe queue =
      let first : NodeDone (Unit {0}) = becoming (record s { phase = Idle; queue = queue }) in
      serving_safe w i s at first (stays_safe w i s at first safe
      (quiet_stays w i s at safe first.state first.answer refl refl refl refl refl
      (λ k f. let bad : ⊥ = cc in absurd bad) (λ u f. f)))

  pub left_safe : IsSafe (after w i (left s))
  left_safe = rested_safe s.queue

  pub cancelled_safe : IsSafe (after w i (cancelled s))
  cancelled_safe = rested_safe (without s.queue s.me)

  -- tick

  not_request_again : (c : Bool) (b hop last : ℕ)
      → IsIn {X = ℕ × RaymondMsg} (b, Privilege hop last)
      (cond c ((s.holder, Request s.sent) ∷ []) []) → ⊥
  not_request_again true b hop last sent = only_request s.holder b hop last s.sent sent
  not_request_again false b hop last none = absurd none

  pub tick_safe : IsSafe (after w i (tick_of s))
  tick_safe = stays_safe w i s at (tick_of s) safe (record {
    me = refl;
    holder = refl;
    hop = refl;
    top = refl;
    mine = refl;
    inside = λ n e. e;
    unacked = λ u e. e;
    letters = λ b hop last sent. elim (in_append (b, Privilege hop last) (privilege_again s.unacked)
        (request_again s) sent) [
          | inl old ↦ again_sent w i s at safe s.unacked refl b hop last old
          | inr request ↦ absurd (not_request_again
              (s.has_asked && not (is_holder s)) b hop last request)
        ];
  })
