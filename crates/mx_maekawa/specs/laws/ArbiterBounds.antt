-- The arbiter's rows keep each number a u64 value, and each name a node.
use Rattle.std.proofs.Common.{ℕ, zero, suc, ◌<◌, ◌+◌, ◌≡◌, ◌||◌, List, [], ◌∷◌, Option, Some, None, max, nat_eq, nat_lt, refl, arith}
use Rattle.mx_nodelaws.specs.World.{sending, becoming}
use Rattle.mx_stamps.specs.declared.stamp.Stamp.{Stamp}
use Rattle.mx_stamps.specs.Stamp.{is_before_of}
use Rattle.mx_stamps.proofs.Lists.{none_is_no_some}
use Rattle.mx_stamps.proofs.Choices.{lt_true, cond_case}
use Rattle.mx_stamps.specs.Numbers.{last_number}
use Rattle.mx_letters.specs.declared.maekawa.MaekawaMsg.{MaekawaMsg}
use Rattle.mx_letters.specs.declared.maekawa.MaekawaMsg.TheVariants.{Locked, Failed, Inquire}
use Rattle.mx_nodelaws.proofs.Bounds.{nil, one, both, none_held, one_held, put_at, set_at}
use Rattle.mx_nodelaws.specs.Bounds.{IsU64, BoundedStamp, AreBounded, IsBoundedDone}
use Rattle.mx_maekawa.specs.declared.lock.Lock.{Lock}
use Rattle.mx_maekawa.specs.Node.{ArbiterState}
use Rattle.mx_maekawa.specs.ArbiterStep.{others_at, lock_letter, locked, least_of, lesser, grant_to, grant_in, grant, is_below, fail_least, overtaking, rank_against, rank_by, waiting_for, queue, is_for, is_overtaken, take_fresh, take_live, take_request, is_exactly, or_else, waiting_at, unlocking, taking_back, take_relinquish, drop_up_to, ended_at, ending, is_up_to, take_release}
use Rattle.mx_maekawa.specs.Good.{BoundedLetter, BoundedLock, BoundedArbiter}
use Rattle.mx_maekawa.specs.ArbiterStep.{ArbiterDone}

-- a step of the arbiter after which each number is a u64 value, and each name a node
abbrev pub BoundedArbiterDone : ℕ → ArbiterDone → Type 0
BoundedArbiterDone n did = IsBoundedDone BoundedArbiter BoundedLetter n did

module _ (n : ℕ) where
  quietly_bounded : (a : ArbiterState) → BoundedArbiter n a → BoundedArbiterDone n (becoming a)
  quietly_bounded a ok = record { state = ok; letters = nil BoundedLetter n }

  -- the least request

  lesser_bounded : (x y : Option Stamp) (u : Stamp) → ((v : Stamp) → x ≡ Some v → BoundedStamp n v)
      → ((v : Stamp) → y ≡ Some v → BoundedStamp n v) → lesser x y ≡ Some u → BoundedStamp n u
  lesser_bounded None y u p q h = q u h
  lesser_bounded (Some x) None u p q h = p u h
  lesser_bounded (Some x) (Some y) u p q h =
      let P : Option Stamp → Type 0 = λ o. o ≡ Some u → BoundedStamp n u in
      cond_case P (is_before_of y x) (Some y) (Some x) (λ _ k. q u k) (λ _ k. p u k) h

  least_bounded : (f : ℕ → Option Stamp) (k : ℕ) (u : Stamp)
      → ((j : ℕ) (v : Stamp) → f j ≡ Some v → BoundedStamp n v) → least_of f k ≡ Some u
      → BoundedStamp n u
  least_bounded f zero u bounded h = absurd (none_is_no_some u h)
  least_bounded f (suc k) u bounded h =
      lesser_bounded (least_of f k) (f k) u (λ v e. least_bounded f k v bounded e)
      (λ v e. bounded k v e) h

  others_bounded : (a : ArbiterState) (but j : ℕ) (u : Stamp) → BoundedArbiter n a
      → others_at a but j ≡ Some u → BoundedStamp n u
  others_bounded a but j u ok h =
      let P : Option Stamp → Type 0 = λ o. o ≡ Some u → BoundedStamp n u in
      cond_case P (nat_eq j but) None (waiting_at a j) (λ _ e. absurd (none_is_no_some u e))
      (λ _ e. ok.waiting j u e) h

  or_else_bounded : (o : Option Stamp) (s u : Stamp) → BoundedStamp n s
      → ((v : Stamp) → o ≡ Some v → BoundedStamp n v) → or_else o s ≡ Some u → BoundedStamp n u
  or_else_bounded None s u bounded was h = one_held (BoundedStamp n) s u bounded h
  or_else_bounded (Some x) s u bounded was h = was u h

  drop_bounded : (o : Option Stamp) (number : ℕ) (u : Stamp)
      → ((v : Stamp) → o ≡ Some v → BoundedStamp n v) → drop_up_to o number ≡ Some u
      → BoundedStamp n u
  drop_bounded None number u was h = absurd (none_is_no_some u h)
  drop_bounded (Some x) number u was h =
      let P : Option Stamp → Type 0 = λ o. o ≡ Some u → BoundedStamp n u in
      cond_case P (nat_lt number x.number) (Some x) None (λ _ k. was u k)
      (λ _ k. absurd (none_is_no_some u k)) h

  -- Grant

  locked_bounded : (a : ArbiterState) (u : Stamp) → a.granted < last_number → BoundedStamp n u
      → BoundedArbiter n a → BoundedArbiterDone n (locked a u)
  locked_bounded a u lt bounded ok =
      let next : IsU64 (a.granted + 1) = omega arith in
      let lock : Lock = record { stamp = u; grant = a.granted + 1; last = a.last } in
      let good : BoundedLock n lock = record { stamp = bounded; grant = next; last = ok.last } in
      record {
        state = search (
          (λ (l : Lock). one_held (BoundedLock n) lock l good),
          put_at (BoundedStamp n) a.waiting u.node None (none_held (BoundedStamp n)) ok.waiting,
        );
        letters = one BoundedLetter n u.node (Locked u (a.granted + 1) a.last) bounded.1
            (bounded, next, ok.last);
      }

  grant_to_bounded : (o : Option Stamp) (a : ArbiterState)
      → ((u : Stamp) → o ≡ Some u → BoundedStamp n u) → BoundedArbiter n a
      → BoundedArbiterDone n (grant_to o a)
  grant_to_bounded None a bounded ok = quietly_bounded a ok
  grant_to_bounded (Some u) a bounded ok =
      cond_case (λ d. BoundedArbiterDone n d) (nat_lt a.granted last_number) (locked a u)
      (becoming a)
      (λ e. locked_bounded a u (lt_true a.granted last_number e) (bounded u refl) ok)
      (λ _. quietly_bounded a ok)

  grant_in_bounded : (o : Option Lock) (a : ArbiterState) → BoundedArbiter n a
      → BoundedArbiterDone n (grant_in o a)
  grant_in_bounded None a ok = grant_to_bounded (least_of (waiting_at a) a.count) a
      (λ u h. least_bounded (waiting_at a) a.count u ok.waiting h) ok
  grant_in_bounded (Some lock) a ok = quietly_bounded a ok

  grant_bounded : (a : ArbiterState) → BoundedArbiter n a → BoundedArbiterDone n (grant a)
  grant_bounded a ok = grant_in_bounded a.lock a ok

  -- Rank

  fail_least_bounded : (o : Option Stamp) → ((u : Stamp) → o ≡ Some u → BoundedStamp n u)
      → AreBounded BoundedLetter n (fail_least o)
  fail_least_bounded None was = nil BoundedLetter n
  fail_least_bounded (Some u) was =
      let p = was u refl in one BoundedLetter n u.node (Failed u) p.1 p

  rank_bounded : (lock : Lock) (stamp : Stamp) (other : Option Stamp) → BoundedLock n lock
      → BoundedStamp n stamp → ((u : Stamp) → other ≡ Some u → BoundedStamp n u)
      → AreBounded BoundedLetter n (rank_by lock stamp other)
  rank_bounded lock stamp other l bounded was =
      let P : List (ℕ × MaekawaMsg) → Type 0 = λ ls. AreBounded BoundedLetter n ls in
      let inquiry : MaekawaMsg = Inquire lock.stamp lock.grant in
      cond_case P (nat_eq lock.stamp.node stamp.node) ((stamp.node, inquiry) ∷ [])
      (rank_against lock stamp other)
      (λ _. one BoundedLetter n stamp.node inquiry bounded.1 (l.stamp, l.grant))
      (λ _. cond_case P (is_before_of lock.stamp stamp || is_below other stamp)
      ((stamp.node, Failed stamp) ∷ []) (overtaking lock other)
      (λ _. one BoundedLetter n stamp.node (Failed stamp) bounded.1 bounded)
      (λ _. both BoundedLetter n ((lock.stamp.node, inquiry) ∷ []) (fail_least other)
      (one BoundedLetter n lock.stamp.node inquiry l.stamp.1 (l.stamp, l.grant))
      (fail_least_bounded other was)))

  -- REQUEST

  waiting_bounded : (a : ArbiterState) (stamp : Stamp) → BoundedStamp n stamp → BoundedArbiter n a
      → BoundedArbiter n (waiting_for a stamp)
  waiting_bounded a stamp bounded ok =
      search (put_at (BoundedStamp n) a.waiting stamp.node (Some stamp)
      (λ u. one_held (BoundedStamp n) stamp u bounded) ok.waiting)

  queue_bounded : (o : Option Lock) (stamp : Stamp) (a : ArbiterState) → a.lock ≡ o
      → BoundedStamp n stamp → BoundedArbiter n a → BoundedArbiterDone n (queue o stamp a)
  queue_bounded None stamp a is bounded ok =
      grant_bounded (waiting_for a stamp) (waiting_bounded a stamp bounded ok)
  queue_bounded (Some lock) stamp a is bounded ok =
      let w = waiting_bounded a stamp bounded ok in
      let x = waiting_for a stamp in
      record {
        state = w;
        letters = rank_bounded lock stamp
            (least_of (others_at x stamp.node) x.count)
            (ok.lock lock is) bounded (λ u e. least_bounded (others_at x stamp.node) x.count u
            (λ j v k. others_bounded x stamp.node j v w k) e);
      }

  pub lock_letter_bounded : (o : Option Lock) → ((lock : Lock) → o ≡ Some lock → BoundedLock n lock)
      → AreBounded BoundedLetter n (lock_letter o)
  lock_letter_bounded None was = nil BoundedLetter n
  lock_letter_bounded (Some lock) was = let p = was lock refl in
      one BoundedLetter n lock.stamp.node (Locked lock.stamp lock.grant lock.last) p.stamp.1
      (p.stamp, p.grant, p.last)

  pub request_bounded : (stamp : Stamp) (a : ArbiterState) → BoundedStamp n stamp
      → BoundedArbiter n a → BoundedArbiterDone n (take_request stamp a)
  request_bounded stamp a bounded ok =
      let P : ArbiterDone → Type 0 = λ d. BoundedArbiterDone n d in
      cond_case P (nat_lt (ended_at a stamp.node) stamp.number) (take_live stamp a) (becoming a)
      (λ _. cond_case P (is_for a.lock stamp) (sending a (lock_letter a.lock)) (take_fresh stamp a)
      (λ _. record { state = ok; letters = lock_letter_bounded a.lock ok.lock })
      (λ _. cond_case P (is_overtaken a stamp) (becoming a) (queue a.lock stamp a)
      (λ _. quietly_bounded a ok) (λ _. queue_bounded a.lock stamp a refl bounded ok)))
      (λ _. quietly_bounded a ok)

  -- RELINQUISH

  pub relinquish_bounded : (stamp : Stamp) (g : ℕ) (a : ArbiterState) → BoundedStamp n stamp
      → BoundedArbiter n a → BoundedArbiterDone n (take_relinquish stamp g a)
  relinquish_bounded stamp g a bounded ok =
      cond_case (λ d. BoundedArbiterDone n d) (is_exactly a.lock stamp g)
      (grant (taking_back stamp a)) (becoming a)
      (λ _. grant_bounded (taking_back stamp a)
      (search (
        none_held (BoundedLock n),
        put_at (BoundedStamp n) a.waiting stamp.node (or_else (waiting_at a stamp.node) stamp)
            (λ u. or_else_bounded (waiting_at a stamp.node) stamp u bounded (ok.waiting stamp.node))
            ok.waiting,
      )))
      (λ _. quietly_bounded a ok)

  -- RELEASE

  pub release_bounded : (stamp : Stamp) (t : ℕ) (a : ArbiterState) → BoundedStamp n stamp → IsU64 t
      → BoundedArbiter n a → BoundedArbiterDone n (take_release stamp t a)
  release_bounded stamp t a bounded small ok =
      let x = ending stamp t a in
      let was : IsU64 (ended_at a stamp.node) = ok.ended stamp.node (ended_at a stamp.node) refl in
      let number : IsU64 stamp.number = bounded.0 in
      let mid : BoundedArbiter n x = search (
        arith,
        put_at (BoundedStamp n) a.waiting stamp.node
            (drop_up_to (waiting_at a stamp.node) stamp.number)
            (λ u. drop_bounded (waiting_at a stamp.node) stamp.number u (ok.waiting stamp.node))
            ok.waiting,
        set_at IsU64 a.ended stamp.node (max (ended_at a stamp.node) stamp.number) 0 (omega arith)
            ok.ended,
      ) in
      cond_case (λ d. BoundedArbiterDone n d) (is_up_to a.lock stamp) (grant (unlocking x))
      (becoming x)
      (λ _. grant_bounded (unlocking x)
      (search (none_held (BoundedLock n)))) (λ _. quietly_bounded x mid)
