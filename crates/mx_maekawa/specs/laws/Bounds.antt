-- Each row keeps each number a u64 value, and each name a node.
use Rattle.std.proofs.Common.{ℕ, zero, suc, ◌<◌, ◌≤◌, ◌^◌, ◌≡◌, get_or, replicate, arith}
use Rattle.mx_stamps.specs.declared.stamp.Stamp.{Stamp}
use Rattle.mx_stamps.proofs.Choices.{cond_case}
use Rattle.mx_stamps.specs.Numbers.{last_number}
use Rattle.mx_letters.specs.declared.maekawa.MaekawaMsg.{MaekawaMsg}
use Rattle.mx_letters.specs.declared.maekawa.MaekawaMsg.TheVariants.{Request, Locked, Failed, Inquire, Relinquish, Release}
use Rattle.mx_nodelaws.specs.World.{Done, becoming}
use Rattle.mx_nodelaws.proofs.Bounds.{nil, both, none_held, none_at}
use Rattle.mx_nodelaws.specs.Bounds.{IsU64, BoundedStamp, IsBoundedDone}
use Rattle.mx_quorums.specs.Family.{Family, IsMeeting}
use Rattle.mx_maekawa.specs.Node.{RequesterState, ArbiterState, Node}
use Rattle.mx_maekawa.specs.RequesterStep.{asked, take_locked, take_failed, take_inquire, entering, ended, request_again}
use Rattle.mx_maekawa.specs.Step.{by_requester, by_arbiter, start_of, tick_of, seeing, is_answer, is_call, deliver_of}
use Rattle.mx_maekawa.specs.ArbiterStep.{lock_letter, take_request, take_relinquish, take_release}
use Rattle.mx_maekawa.specs.Good.{BoundedLetter, BoundedRequester, BoundedLock, BoundedNode}
use Rattle.mx_maekawa.specs.laws.RequesterBounds.{BoundedRequesterDone, asked_bounded, locked_bounded, failed_bounded, inquire_bounded, entering_bounded, ended_bounded, again_bounded}
use Rattle.mx_maekawa.specs.laws.ArbiterBounds as arbiter

-- a step after which each number is a u64 value, and each name a node
abbrev pub BoundedDone : {A : Type 0} → ℕ → Done Node A MaekawaMsg → Type 0
BoundedDone n done = IsBoundedDone BoundedNode BoundedLetter n done

module _ (n : ℕ) (s : Node) (ok : BoundedNode n s) where
  by_r : {A : Type 0} (d : Done RequesterState A MaekawaMsg) → BoundedRequesterDone {A = A} n d
      → BoundedDone {A = A} n (by_requester s d)
  by_r d p =
      record { state = record { requester = p.state; arbiter = ok.arbiter }; letters = p.letters }

  by_a : (d : Done ArbiterState (Unit {0}) MaekawaMsg) → arbiter.BoundedArbiterDone n d
      → BoundedDone {A = Unit {0}} n (by_arbiter s d)
  by_a d p =
      record { state = record { requester = ok.requester; arbiter = p.state }; letters = p.letters }

  ignored : BoundedDone {A = Unit {0}} n (becoming s)
  ignored = record { state = ok; letters = nil BoundedLetter n }

  saw : (number : ℕ) → IsU64 number → BoundedRequester n (seeing s number).requester
  saw number small = search arith

  pub ask_done : s.requester.highest < last_number
      → BoundedDone {A = Stamp} n (by_requester s (asked s.requester))
  ask_done lt = by_r {A = Stamp} (asked s.requester) (asked_bounded n s.requester lt ok.requester)

  pub deliver_done : (from : ℕ) (m : MaekawaMsg) → from < n → BoundedLetter n m
      → BoundedDone {A = Unit {0}} n (deliver_of from m s)
  deliver_done from (Request stamp) lt p =
      cond_case (λ d. BoundedDone {A = Unit {0}} n d) (is_call s from stamp)
      (by_arbiter (seeing s stamp.number) (take_request stamp s.arbiter)) (becoming s)
      (λ _. let a = arbiter.request_bounded n stamp s.arbiter p ok.arbiter in
      record {
        state = record { requester = saw stamp.number p.0; arbiter = a.state };
        letters = a.letters;
      }) (λ _. ignored)
  deliver_done from (Locked stamp g c) lt p =
      cond_case (λ d. BoundedDone {A = Unit {0}} n d) (is_answer s from stamp)
      (by_requester s (take_locked from stamp g c s.requester)) (becoming s)
      (λ _. by_r {A = Unit {0}} (take_locked from stamp g c s.requester)
      (locked_bounded n from stamp g c s.requester lt p.0 p.1 p.2 ok.requester)) (λ _. ignored)
  deliver_done from (Failed stamp) lt p =
      cond_case (λ d. BoundedDone {A = Unit {0}} n d) (is_answer s from stamp)
      (by_requester s (take_failed from stamp s.requester)) (becoming s)
      (λ _. by_r {A = Unit {0}} (take_failed from stamp s.requester)
      (failed_bounded n from stamp s.requester ok.requester)) (λ _. ignored)
  deliver_done from (Inquire stamp g) lt p =
      cond_case (λ d. BoundedDone {A = Unit {0}} n d) (is_answer s from stamp)
      (by_requester s (take_inquire from stamp g s.requester)) (becoming s)
      (λ _. by_r {A = Unit {0}} (take_inquire from stamp g s.requester)
      (inquire_bounded n from stamp g s.requester lt p.0 p.1 ok.requester)) (λ _. ignored)
  deliver_done from (Relinquish stamp g) lt p =
      cond_case (λ d. BoundedDone {A = Unit {0}} n d) (is_call s from stamp)
      (by_arbiter s (take_relinquish stamp g s.arbiter)) (becoming s)
      (λ _. by_a (take_relinquish stamp g s.arbiter)
      (arbiter.relinquish_bounded n stamp g s.arbiter p.0 ok.arbiter)) (λ _. ignored)
  deliver_done from (Release stamp t) lt p =
      cond_case (λ d. BoundedDone {A = Unit {0}} n d) (is_call s from stamp)
      (by_arbiter s (take_release stamp t s.arbiter)) (becoming s)
      (λ _. by_a (take_release stamp t s.arbiter)
      (arbiter.release_bounded n stamp t s.arbiter p.0 p.1 ok.arbiter)) (λ _. ignored)

  pub enter_done : s.requester.top < s.requester.limit
      → BoundedNode n (record s { requester = entering s.requester })
  enter_done lt =
      record { requester = entering_bounded n s.requester lt ok.requester; arbiter = ok.arbiter }

  pub ended_done : BoundedDone {A = Unit {0}} n (by_requester s (ended s.requester))
  ended_done = by_r {A = Unit {0}} (ended s.requester) (ended_bounded n s.requester ok.requester)

  pub tick_done : BoundedDone {A = Unit {0}} n (tick_of s)
  tick_done = record {
    state = ok;
    letters = both BoundedLetter n (request_again s.requester) (lock_letter s.arbiter.lock)
        (again_bounded n s.requester ok.requester)
        (arbiter.lock_letter_bounded n s.arbiter.lock ok.arbiter.lock);
  }

small_or_zero : (origin k : ℕ) → IsU64 origin → (a x : ℕ) → get_or (replicate k origin) a 0 ≡ x
    → IsU64 x
small_or_zero origin zero small a x h = omega arith
small_or_zero origin (suc k) small zero x h = omega arith
small_or_zero origin (suc k) small (suc a) x h = small_or_zero origin k small a x h

pub start_node : (shape : Family) (origin limit i : ℕ) → IsMeeting shape → origin < 2 ^ 64
    → limit ≤ 1000000 → i < shape.count → BoundedNode shape.count (start_of shape i origin limit)
start_node shape origin limit i valid small high lt = record {
  requester = search (
    arith,
    (λ (a : ℕ). valid.nodes i a lt),
    none_at IsU64 21,
    small_or_zero origin 21 small,
  );
  arbiter = search (
    arith,
    none_held (BoundedLock shape.count),
    none_at (BoundedStamp shape.count) 21,
    small_or_zero origin 21 small,
  );
}
