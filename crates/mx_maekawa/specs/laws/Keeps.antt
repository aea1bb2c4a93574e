-- Each row keeps a world safe.
use Rattle.std.proofs.Common.{ℕ, ◌≡◌, inl, inr, true, not, ◌&&◌, List, [], ◌++◌, None, get_or, replicate, nat_eq, refl, sym, ◌∙◌, ap, subst}
use Rattle.mx_stamps.specs.declared.stamp.Stamp.{Stamp}
use Rattle.mx_stamps.specs.Lists.{IsIn}
use Rattle.mx_stamps.proofs.Lists.{in_append, none_is_no_some, get_or_replicate}
use Rattle.mx_stamps.proofs.Choices.{eq_true, and_true, cond_case}
use Rattle.mx_letters.specs.declared.maekawa.MaekawaMsg.{MaekawaMsg}
use Rattle.mx_letters.specs.declared.maekawa.MaekawaMsg.TheVariants.{Request, Locked, Failed, Inquire, Relinquish, Release}
use Rattle.mx_nodelaws.specs.World.{becoming, IsNode, WasSent, after, addressed}
use Rattle.mx_nodelaws.proofs.Worlds.{in_addressed}
use Rattle.mx_nodelaws.specs.declared.phase.Phase.TheVariants.{Idle, Waiting}
use Rattle.mx_nodelaws.specs.Phases.{is_waiting}
use Rattle.mx_nodelaws.proofs.Sent.{sent_if}
use Rattle.mx_quorums.specs.Family.{has_of}
use Rattle.mx_maekawa.specs.Node.{RequesterState, Node}
use Rattle.mx_maekawa.specs.RequesterStep.{is_own, holds, holds_all, to_missing, asking, asked, take_locked, take_failed, take_inquire, entering, ending, ended, request_again}
use Rattle.mx_maekawa.specs.Step.{by_requester, by_arbiter, tick_of, seeing, is_answer, is_call, deliver_of}
use Rattle.mx_maekawa.specs.ArbiterStep.{lock_letter, take_request, take_relinquish, take_release}
use Rattle.mx_maekawa.specs.Good.{NodeWorld, IsBusy, IsNodeOk, HasNoOverdueInquiry, IsSafe}
use Rattle.mx_maekawa.specs.laws.Cascades.{sends_sound}
use Rattle.mx_maekawa.specs.laws.RequesterKeeps.{safe_of, still_safe, locked_safe, failed_safe, inquire_safe}
use Rattle.mx_maekawa.specs.laws.ArbiterKeeps.{lock_may, request_safe, relinquish_safe, release_safe}
use Rattle.mx_maekawa.specs.laws.Changes.{IsSendable}
use Rattle.mx_maekawa.specs.laws.SectionParts.{asked_sound, entered_sound, ended_sound}

none_remembered : (r : RequesterState) → r.remembered ≡ replicate 21 None → HasNoOverdueInquiry r
none_remembered r e a g b lt was = absurd
    (none_is_no_some g (sym (get_or_replicate 21 a None) ∙ sym (ap (λ x. get_or x a None) e) ∙ was))

module _ (w : NodeWorld) (i : ℕ) (s : Node) (good : IsSafe w) (at : IsNode w i s) where
  ok_s : IsNodeOk w i s
  ok_s = good.sound.nodes i s at

  ignored : IsSafe (after w i (becoming s))
  ignored = still_safe w i s good at

  -- ask

  pub ask_safe : s.requester.phase ≡ Idle → IsSafe (after w i (by_requester s (asked s.requester)))
  ask_safe idle = safe_of w i s good at {A = Stamp} (by_requester s (asked s.requester))
      (asked_sound w i s good.sound at {A = Stamp} (asking s.requester).ours idle)
      (none_remembered (asking s.requester) refl)

  -- a letter comes

  calls : (from : ℕ) (stamp : Stamp) → is_call s from stamp ≡ true → stamp.node ≡ from
  calls from stamp e = eq_true stamp.node from
      (and_true (has_of s.quorums from s.requester.me) (nat_eq stamp.node from) e).1

  answers : (from : ℕ) (stamp : Stamp) → is_answer s from stamp ≡ true
      → (is_own s.requester from ≡ true) × (stamp.node ≡ i)
  answers from stamp e = let p = and_true (is_own s.requester from)
      (nat_eq stamp.node s.requester.me) e in
      (p.0, eq_true stamp.node s.requester.me p.1 ∙ ok_s.placed.me)

  pub deliver_safe : (from : ℕ) (m : MaekawaMsg) → WasSent w from i m
      → IsSafe (after w i (deliver_of from m s))
  deliver_safe from (Request stamp) sent =
      cond_case (λ d. IsSafe (after w i d)) (is_call s from stamp)
      (by_arbiter (seeing s stamp.number) (take_request stamp s.arbiter)) (becoming s)
      (λ _. request_safe w i s good at stamp) (λ _. ignored)
  deliver_safe from (Locked stamp g c) sent =
      cond_case (λ d. IsSafe (after w i d)) (is_answer s from stamp)
      (by_requester s (take_locked from stamp g c s.requester)) (becoming s)
      (λ e. let p = answers from stamp e in locked_safe w i s good at from stamp g c p.0 p.1 sent)
      (λ _. ignored)
  deliver_safe from (Failed stamp) sent =
      cond_case (λ d. IsSafe (after w i d)) (is_answer s from stamp)
      (by_requester s (take_failed from stamp s.requester)) (becoming s)
      (λ _. failed_safe w i s good at from stamp) (λ _. ignored)
  deliver_safe from (Inquire stamp g) sent =
      cond_case (λ d. IsSafe (after w i d)) (is_answer s from stamp)
      (by_requester s (take_inquire from stamp g s.requester)) (becoming s)
      (λ e. let p = answers from stamp e in inquire_safe w i s good at from stamp g p.0 p.1 sent)
      (λ _. ignored)
  deliver_safe from (Relinquish stamp g) sent =
      cond_case (λ d. IsSafe (after w i d)) (is_call s from stamp)
      (by_arbiter s (take_relinquish stamp g s.arbiter)) (becoming s)
      (λ e. relinquish_safe w i s good at from stamp g (calls from stamp e) sent) (λ _. ignored)
  deliver_safe from (Release stamp t) sent =
      cond_case (λ d. IsSafe (after w i d)) (is_call s from stamp)
      (by_arbiter s (take_release stamp t s.arbiter)) (becoming s)
      (λ e. release_safe w i s good at from stamp t (calls from stamp e) sent) (λ _. ignored)

  -- enter

  pub enter_safe : s.requester.phase ≡ Waiting → holds_all s.requester ≡ true
      → IsSafe (after w i (becoming (record s { requester = entering s.requester })))
  enter_safe waiting all = safe_of w i s good at {A = Unit {0}}
      (becoming (record s { requester = entering s.requester }))
      (entered_sound w i s good.sound at {A = Unit {0}} tt waiting all)
      (none_remembered (entering s.requester) refl)

  -- leave and cancel

  pub ended_safe : IsBusy s.requester → IsSafe (after w i (by_requester s (ended s.requester)))
  ended_safe busy = safe_of w i s good at {A = Unit {0}} (by_requester s (ended s.requester))
      (ended_sound w i s good.sound at {A = Unit {0}} tt busy)
      (none_remembered (ending s.requester) refl)

  -- tick

  request_may : (b : ℕ) (m : MaekawaMsg)
      → IsIn {X = ℕ × MaekawaMsg} (b, m) (request_again s.requester) → IsSendable w i s s b m
  request_may b m =
      let r = s.requester in
      let P : List (ℕ × MaekawaMsg) → Type 0 = λ ls. IsIn {X = ℕ × MaekawaMsg} (b, m) ls
      → IsSendable w i s s b m in
      cond_case P (is_waiting r.phase) (addressed (to_missing r (Request r.ours)) r.count) []
      (λ _ sent. let p = in_addressed (to_missing r (Request r.ours)) r.count b m sent in
      subst (λ x. IsSendable w i s s b x) (sym
      (sent_if (is_own r b && not (holds r b)) (Request r.ours) m p.1).1) tt)
      (λ _ none. absurd none)

  pub tick_safe : IsSafe (after w i (tick_of s))
  tick_safe =
      let letters = request_again s.requester ++ lock_letter s.arbiter.lock in
      safe_of w i s good at {A = Unit {0}} (tick_of s)
      (sends_sound i {A = Unit {0}} w s tt letters good.sound at
      (λ b m sent. elim (in_append (b, m) (request_again s.requester)
      (lock_letter s.arbiter.lock) sent) [
        | inl a ↦ request_may b m a
        | inr c ↦ lock_may w i s good at s s.arbiter.lock refl b m c
      ]))
      (good.none_overdue i s at)
