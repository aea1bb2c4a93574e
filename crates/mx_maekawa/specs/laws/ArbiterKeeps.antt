-- Each row of the arbiter keeps a world safe.
use Rattle.std.proofs.Common.{ℕ, ◌≤◌, ◌+◌, ◌≡◌, inl, inr, true, ◌||◌, List, [], ◌∷◌, Option, Some, None, max, slice_set, nat_eq, nat_lt, refl, sym, ◌∙◌, subst, arith}
use Rattle.mx_stamps.specs.declared.stamp.Stamp.{Stamp}
use Rattle.mx_stamps.specs.Stamp.{is_before_of, is_same_as}
use Rattle.mx_stamps.specs.Lists.{IsIn}
use Rattle.mx_stamps.proofs.Choices.{lt_true, eq_true, and_true, cond_case}
use Rattle.mx_stamps.proofs.Stamps.{same_stamp}
use Rattle.mx_letters.specs.declared.maekawa.MaekawaMsg.{MaekawaMsg}
use Rattle.mx_letters.specs.declared.maekawa.MaekawaMsg.TheVariants.{Locked, Failed, Inquire, Relinquish, Release}
use Rattle.mx_nodelaws.specs.World.{sending, becoming, IsNode, WasSent, after}
use Rattle.mx_nodelaws.proofs.Frame.{reached_max}
use Rattle.mx_maekawa.specs.declared.lock.Lock.{Lock}
use Rattle.mx_maekawa.specs.Node.{Node}
use Rattle.mx_maekawa.specs.Step.{by_arbiter, seeing}
use Rattle.mx_maekawa.specs.ArbiterStep.{lock_letter, grant, is_below, fail_least, overtaking, rank_against, rank_by, least_of, others_at, waiting_for, queue, is_for, is_overtaken, take_fresh, take_live, take_request, is_exactly, or_else, waiting_at, unlocking, taking_back, take_relinquish, ended_at, ending, is_up_to, take_release}
use Rattle.mx_maekawa.specs.Good.{NodeWorld, IsReached, IsNodeOk, HasNoOverdueInquiry, IsSound, IsSafe}
use Rattle.mx_maekawa.specs.ArbiterStep.{ArbiterDone}
use Rattle.mx_maekawa.specs.laws.Parts.{aside_sound, one_letter}
use Rattle.mx_maekawa.specs.laws.Cascades.{now_is, both_sound, grant_sound}
use Rattle.mx_maekawa.specs.laws.RequesterKeeps.{safe_of, still_safe}
use Rattle.mx_maekawa.specs.laws.Changes.{IsSendable}
use Rattle.mx_maekawa.specs.laws.LockParts.{unlocked_sound}

exactly_means : (o : Option Lock) (stamp : Stamp) (g : ℕ) → is_exactly o stamp g ≡ true
    → (lock : Lock) × (o ≡ Some lock) × (lock.stamp ≡ stamp) × (lock.grant ≡ g)
exactly_means None stamp g h = let bad : ⊥ = cc in absurd bad
exactly_means (Some lock) stamp g h = let p =
    and_true (is_same_as lock.stamp stamp) (nat_eq lock.grant g) h in
    (lock, refl, same_stamp lock.stamp stamp p.0, eq_true lock.grant g p.1)

up_to_means : (o : Option Lock) (stamp : Stamp) → is_up_to o stamp ≡ true → (lock : Lock)
    × (o ≡ Some lock) × (lock.stamp.node ≡ stamp.node) × (lock.stamp.number ≤ stamp.number)
up_to_means None stamp h = let bad : ⊥ = cc in absurd bad
up_to_means (Some lock) stamp h =
    let p = and_true (nat_eq lock.stamp.node stamp.node)
    (nat_lt lock.stamp.number (stamp.number + 1)) h in
    let lt = lt_true lock.stamp.number (stamp.number + 1) p.1 in
    (lock, refl, eq_true lock.stamp.node stamp.node p.0, omega arith)

module _ (w : NodeWorld) (i : ℕ) (s : Node) (good : IsSafe w) (at : IsNode w i s) where
  ok_s : IsNodeOk w i s
  ok_s = good.sound.nodes i s at

  none_overdue_s : HasNoOverdueInquiry s.requester
  none_overdue_s = good.none_overdue i s at

  -- letters

  none_may : (new : Node) (b : ℕ) (m : MaekawaMsg) → IsIn {X = ℕ × MaekawaMsg} (b, m) []
      → IsSendable w i s new b m
  none_may new b m none = absurd none

  pub lock_may : (new : Node) (o : Option Lock) → s.arbiter.lock ≡ o → (b : ℕ) (m : MaekawaMsg)
      → IsIn {X = ℕ × MaekawaMsg} (b, m) (lock_letter o) → IsSendable w i s new b m
  lock_may new None is b m none = absurd none
  lock_may new (Some lock) is b m sent =
      one_letter w i s good.sound at new lock.stamp.node (Locked lock.stamp lock.grant lock.last)
      (inl (ok_s.lock_last lock is).1) b m sent

  fail_least_may : (new : Node) (o : Option Stamp) (b : ℕ) (m : MaekawaMsg)
      → IsIn {X = ℕ × MaekawaMsg} (b, m) (fail_least o) → IsSendable w i s new b m
  fail_least_may new None b m none = absurd none
  fail_least_may new (Some u) b m sent =
      one_letter w i s good.sound at new u.node (Failed u) tt b m sent

  rank_may : (new : Node) (lock : Lock) (stamp : Stamp) (other : Option Stamp) → s.arbiter.lock
      ≡ Some lock → (b : ℕ) (m : MaekawaMsg)
      → IsIn {X = ℕ × MaekawaMsg} (b, m) (rank_by lock stamp other) → IsSendable w i s new b m
  rank_may new lock stamp other is b m =
      let P : List (ℕ × MaekawaMsg) → Type 0 = λ ls. IsIn {X = ℕ × MaekawaMsg} (b, m) ls
      → IsSendable w i s new b m in
      let inquiry : MaekawaMsg = Inquire lock.stamp lock.grant in
      let was = (ok_s.lock_last lock is).1 in
      cond_case P (nat_eq lock.stamp.node stamp.node) ((stamp.node, inquiry) ∷ [])
      (rank_against lock stamp other)
      (λ e sent. one_letter w i s good.sound at new stamp.node inquiry (
        lock.last,
        subst (λ x. WasSent w i x (Locked lock.stamp lock.grant lock.last))
            (eq_true lock.stamp.node stamp.node e) was,
      ) b m sent)
      (λ _. cond_case P (is_before_of lock.stamp stamp || is_below other stamp)
      ((stamp.node, Failed stamp) ∷ []) (overtaking lock other)
      (λ _ sent. one_letter w i s good.sound at new stamp.node (Failed stamp) tt b m sent)
      (λ _ sent. elim sent [
        | inl e ↦ one_letter w i s good.sound at new lock.stamp.node inquiry (lock.last, was) b m
            (inl e)
        | inr rest ↦ fail_least_may new other b m rest
      ]))

  -- REQUEST

  saw_safe : (number : ℕ) (waiting : List (Option Stamp)) (letters : List (ℕ × MaekawaMsg))
      → ((b : ℕ) (m : MaekawaMsg) → IsIn {X = ℕ × MaekawaMsg} (b, m) letters
      → IsSendable w i s (record (seeing s number)
      { arbiter = record (s.arbiter) { waiting = waiting } }) b m) →
      IsSafe (after w i (by_arbiter (seeing s number)
      (sending (record (s.arbiter) { waiting = waiting }) letters)))
  saw_safe number waiting letters may =
      safe_of w i s good at {A = Unit {0}}
      (by_arbiter (seeing s number)
      (sending (record (s.arbiter) { waiting = waiting }) letters))
      (aside_sound w i s good.sound at {A = Unit {0}} tt s.requester.failed s.requester.remembered
      (max s.requester.highest number) waiting s.arbiter.ended s.arbiter.last letters ok_s.remembered_held (omega arith) (omega arith) ok_s.last_reached may)
      none_overdue_s

  queue_safe : (o : Option Lock) (stamp : Stamp) → s.arbiter.lock ≡ o
      → IsSafe (after w i (by_arbiter (seeing s stamp.number) (queue o stamp s.arbiter)))
  queue_safe None stamp is =
      let first = by_arbiter (seeing s stamp.number) (becoming (waiting_for s.arbiter stamp)) in
      let mid = first.state in
      let saw : IsSafe (after w i first) =
      saw_safe stamp.number (slice_set s.arbiter.waiting stamp.node (Some stamp)) []
      (none_may mid) in
      let second = by_arbiter mid (grant mid.arbiter) in
      safe_of w i s good at {A = Unit {0}}
      (by_arbiter (seeing s stamp.number) (queue None stamp s.arbiter))
      (both_sound i {A = Unit {0}} {B = Unit {0}} w first second
      (grant_sound i (after w i first) mid saw.sound (now_is i w s first at)))
      none_overdue_s
  queue_safe (Some lock) stamp is =
      let a = waiting_for s.arbiter stamp in
      saw_safe stamp.number (slice_set s.arbiter.waiting stamp.node (Some stamp))
      (rank_by lock stamp (least_of (others_at a stamp.node) a.count))
      (rank_may (record (seeing s stamp.number) { arbiter = a }) lock stamp
      (least_of (others_at a stamp.node) a.count) is)

  pub request_safe : (stamp : Stamp) → IsSafe
      (after w i (by_arbiter (seeing s stamp.number) (take_request stamp s.arbiter)))
  request_safe stamp =
      let P : ArbiterDone → Type 0 = λ d. IsSafe
      (after w i (by_arbiter (seeing s stamp.number) d)) in
      let a = s.arbiter in
      let nothing : P (becoming a) = saw_safe stamp.number a.waiting []
      (none_may (seeing s stamp.number)) in
      cond_case P (nat_lt (ended_at a stamp.node) stamp.number) (take_live stamp a) (becoming a)
      (λ _. cond_case P (is_for a.lock stamp) (sending a (lock_letter a.lock)) (take_fresh stamp a)
      (λ _. saw_safe stamp.number a.waiting (lock_letter a.lock)
      (lock_may (seeing s stamp.number) a.lock refl))
      (λ _. cond_case P (is_overtaken a stamp) (becoming a) (queue a.lock stamp a) (λ _. nothing)
      (λ _. queue_safe a.lock stamp refl)))
      (λ _. nothing)

  -- RELINQUISH

  pub relinquish_safe : (from : ℕ) (stamp : Stamp) (g : ℕ) → stamp.node ≡ from
      → WasSent w from i (Relinquish stamp g)
      → IsSafe (after w i (by_arbiter s (take_relinquish stamp g s.arbiter)))
  relinquish_safe from stamp g node sent =
      cond_case (λ d. IsSafe (after w i (by_arbiter s d))) (is_exactly s.arbiter.lock stamp g)
      (grant (taking_back stamp s.arbiter)) (becoming s.arbiter)
      (λ e.
      let p = exactly_means s.arbiter.lock stamp g e in
      let lock : Lock = p.0 in
      let ws = slice_set s.arbiter.waiting stamp.node
      (or_else (waiting_at s.arbiter stamp.node) stamp) in
      let first = by_arbiter s (becoming (taking_back stamp s.arbiter)) in
      let mid = first.state in
      let sent_lock : WasSent w lock.stamp.node i (Relinquish lock.stamp lock.grant) =
      subst (λ x. WasSent w x.node i (Relinquish x lock.grant)) (sym p.2)
      (subst (λ x. WasSent w stamp.node i (Relinquish stamp x)) (sym p.3)
      (subst (λ x. WasSent w x i (Relinquish stamp g)) (sym node) sent)) in
      let ended : IsSound (after w i first) =
      unlocked_sound w i s good.sound at {A =
      Unit {0}} tt ws s.arbiter.ended s.arbiter.last lock p.1 (inl sent_lock)
      (omega arith) ok_s.last_reached in
      let second = by_arbiter mid (grant mid.arbiter) in
      safe_of w i s good at {A = Unit {0}} (by_arbiter s (grant (taking_back stamp s.arbiter)))
      (both_sound i {A = Unit {0}} {B = Unit {0}} w first second
      (grant_sound i (after w i first) mid ended (now_is i w s first at)))
      none_overdue_s)
      (λ _. still_safe w i s good at)

  -- RELEASE

  pub release_safe : (from : ℕ) (stamp : Stamp) (t : ℕ) → stamp.node ≡ from
      → WasSent w from i (Release stamp t)
      → IsSafe (after w i (by_arbiter s (take_release stamp t s.arbiter)))
  release_safe from stamp t node sent =
      let a = ending stamp t s.arbiter in
      let reached : IsReached w (max s.arbiter.last t) =
      reached_max (λ x. x.requester.mine) w s.arbiter.last t ok_s.last_reached
      (good.sound.letters from i (Release stamp t) sent).reached in
      cond_case (λ d. IsSafe (after w i (by_arbiter s d))) (is_up_to s.arbiter.lock stamp)
      (grant (unlocking a)) (becoming a)
      (λ e.
      let p = up_to_means s.arbiter.lock stamp e in
      let lock : Lock = p.0 in
      let first = by_arbiter s (becoming (unlocking a)) in
      let mid = first.state in
      let sent_lock : WasSent w lock.stamp.node i (Release stamp t) =
      subst (λ x. WasSent w x i (Release stamp t)) (sym (p.2 ∙ node)) sent in
      let ended : IsSound (after w i first) =
      unlocked_sound w i s good.sound at {A = Unit {0}} tt a.waiting a.ended a.last lock p.1
      (inr (stamp, t, sent_lock, p.3, omega arith)) (omega arith) reached in
      let second = by_arbiter mid (grant mid.arbiter) in
      safe_of w i s good at {A = Unit {0}} (by_arbiter s (grant (unlocking a)))
      (both_sound i {A = Unit {0}} {B = Unit {0}} w first second
      (grant_sound i (after w i first) mid ended (now_is i w s first at)))
      none_overdue_s)
      (λ _. safe_of w i s good at {A = Unit {0}} (by_arbiter s (becoming a))
      (aside_sound w i s good.sound at {A =
      Unit {0}} tt s.requester.failed s.requester.remembered s.requester.highest a.waiting a.ended a.last [] ok_s.remembered_held (omega arith) (omega arith) reached (none_may (record s { arbiter = a })))
      none_overdue_s)
