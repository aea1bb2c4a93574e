-- The requester's rows keep each number a u64 value, and each name a node.
use Rattle.std.proofs.Common.{[], ℕ, zero, suc, ◌<◌, ◌≤◌, ◌≡◌, not, ◌&&◌, ◌∷◌, Option, Some, None, max, nat_eq, nat_lt, refl, sym, subst, arith}
use Rattle.mx_stamps.specs.declared.stamp.Stamp.{Stamp}
use Rattle.mx_stamps.proofs.Choices.{and_true, cond_case}
use Rattle.mx_stamps.specs.Numbers.{last_number}
use Rattle.mx_letters.specs.declared.maekawa.MaekawaMsg.{MaekawaMsg}
use Rattle.mx_letters.specs.declared.maekawa.MaekawaMsg.TheVariants.{Request, Relinquish, Release}
use Rattle.mx_nodelaws.specs.World.{becoming, addressed}
use Rattle.mx_nodelaws.proofs.Bounds.{nil, one, both, none_held, one_held, none_at, put_at, set_at}
use Rattle.mx_nodelaws.proofs.Worlds.{in_addressed}
use Rattle.mx_nodelaws.specs.Phases.{is_waiting}
use Rattle.mx_nodelaws.specs.Bounds.{IsU64, BoundedStamp, AreBounded, IsBoundedDone}
use Rattle.mx_nodelaws.proofs.Sent.{sent_if}
use Rattle.mx_maekawa.specs.Node.{RequesterState}
use Rattle.mx_maekawa.specs.RequesterStep.{saying, held_at, remembered_at, back_at, is_own, holds, has_ended, to_own, to_missing, asking, asked, giving, give_remembered, give_below, failing, fail, release_ended, holding, is_current_wait, locked_fresh, locked_current, take_locked, take_failed, has_failed_below, giving_now, remembering, declining, inquired_held, inquired_missing, inquired, take_inquire, entering, ended, request_again}
use Rattle.mx_maekawa.specs.Good.{BoundedLetter, BoundedRequester}
use Rattle.mx_maekawa.specs.RequesterStep.{RequesterDone}

-- a step of the requester after which each number is a u64 value, and each name a node
abbrev pub BoundedRequesterDone : {A : Type 0} → ℕ → RequesterDone A → Type 0
BoundedRequesterDone n did = IsBoundedDone BoundedRequester BoundedLetter n did

module _ (n : ℕ) where
  -- Fail

  giving_bounded : (o : Option ℕ) (r : RequesterState) (b : ℕ) → remembered_at r b ≡ o → b < n
      → BoundedRequester n r → BoundedRequesterDone {A = Unit {0}} n (giving o r b)
  giving_bounded None r b is lt ok = record { state = ok; letters = nil BoundedLetter n }
  giving_bounded (Some g) r b is lt ok =
      let small = ok.remembered b g is in record {
        state = search (
          put_at IsU64 r.held b None (none_held IsU64) ok.held,
          put_at IsU64 r.remembered b None (none_held IsU64) ok.remembered,
          set_at IsU64 r.back b g 0 small ok.back,
        );
        letters = one BoundedLetter n b (Relinquish r.ours g) lt (ok.ours, small);
      }

  give_bounded : (k : ℕ) (r : RequesterState) → k ≤ n → BoundedRequester n r
      → BoundedRequesterDone {A = Unit {0}} n (give_below k r)
  give_bounded zero r le ok = record { state = ok; letters = nil BoundedLetter n }
  give_bounded (suc k) r le ok =
      let first = give_bounded k r (omega arith) ok in
      let x = (give_below k r).state in
      let second = giving_bounded (remembered_at x k) x k refl (omega arith) first.state in
      record {
        state = second.state;
        letters = both BoundedLetter n (give_below k r).letters
            (give_remembered k x).letters first.letters second.letters;
      }

  fail_bounded : (a : ℕ) (r : RequesterState) → BoundedRequester n r
      → BoundedRequesterDone {A = Unit {0}} n (fail a r)
  fail_bounded a r ok = give_bounded r.count (failing r a) ok.count search

  -- ask

  to_own_bounded : (r : RequesterState) (m : MaekawaMsg) → BoundedRequester n r → BoundedLetter n m
      → AreBounded BoundedLetter n (addressed (to_own r m) r.count)
  to_own_bounded r m ok bounded b x sent =
      let p = in_addressed (to_own r m) r.count b x sent in
      let q = sent_if (is_own r b) m x p.1 in
      (ok.own b q.0, subst (λ y. BoundedLetter n y) (sym q.1) bounded)

  pub asked_bounded : (r : RequesterState) → r.highest < last_number → BoundedRequester n r
      → BoundedRequesterDone {A = Stamp} n (asked r)
  asked_bounded r lt ok =
      let ours : BoundedStamp n (asking r).ours = (omega arith, ok.me) in record {
        state = search (arith, none_at IsU64 21);
        letters = to_own_bounded r (Request (asking r).ours) ok ours;
      }

  -- LOCKED

  released_bounded : (r : RequesterState) (stamp : Stamp) (a : ℕ) → BoundedStamp n stamp → a < n
      → BoundedRequester n r → BoundedRequesterDone {A = Unit {0}} n (release_ended r stamp a)
  released_bounded r stamp a bounded lt ok =
      cond_case (λ d. BoundedRequesterDone {A = Unit {0}} n d) (has_ended r stamp)
      (saying r a (Release stamp r.top)) (becoming r)
      (λ _. record {
        state = ok;
        letters = one BoundedLetter n a (Release stamp r.top) lt (bounded, ok.top);
      }) (λ _. record {
        state =
            ok;
        letters = nil BoundedLetter n;
      })

  pub locked_bounded : (a : ℕ) (stamp : Stamp) (g c : ℕ) (r : RequesterState) → a < n
      → BoundedStamp n stamp → IsU64 g → IsU64 c → BoundedRequester n r
      → BoundedRequesterDone {A = Unit {0}} n (take_locked a stamp g c r)
  locked_bounded a stamp g c r lt bounded small last ok =
      let P : RequesterDone (Unit {0}) → Type 0 = λ d. BoundedRequesterDone {A = Unit {0}} n d in
      cond_case P (is_current_wait r stamp) (locked_current a stamp g c r) (release_ended r stamp a)
      (λ _. cond_case P (holds r a) (becoming r) (locked_fresh a stamp g c r)
      (λ _. record { state = ok; letters = nil BoundedLetter n })
      (λ _. cond_case P (nat_lt (back_at r a) g) (becoming (holding r a g c))
      (saying r a (Relinquish stamp g))
      (λ _. record {
        state = search (
          arith,
          put_at IsU64 r.held a (Some g) (λ x. one_held IsU64 g x small) ok.held,
        );
        letters = nil BoundedLetter n;
      })
      (λ _. record {
        state = ok;
        letters = one BoundedLetter n a (Relinquish stamp g) lt (bounded, small);
      })))
      (λ _. released_bounded r stamp a bounded lt ok)

  -- FAILED

  pub failed_bounded : (a : ℕ) (stamp : Stamp) (r : RequesterState) → BoundedRequester n r
      → BoundedRequesterDone {A = Unit {0}} n (take_failed a stamp r)
  failed_bounded a stamp r ok =
      cond_case (λ d. BoundedRequesterDone {A = Unit {0}} n d)
      (is_current_wait r stamp && not (holds r a)) (fail a r) (becoming r)
      (λ _. fail_bounded a r ok) (λ _. record { state = ok; letters = nil BoundedLetter n })

  -- INQUIRE

  missing_bounded : (a : ℕ) (stamp : Stamp) (g : ℕ) (r : RequesterState) → a < n
      → BoundedStamp n stamp → IsU64 g → BoundedRequester n r
      → BoundedRequesterDone {A = Unit {0}} n (inquired_missing a stamp g r)
  missing_bounded a stamp g r lt bounded small ok =
      let was : IsU64 (back_at r a) = ok.back a (back_at r a) refl in
      let mid : BoundedRequester n (declining r a g) =
      search (set_at IsU64 r.back a (max (back_at r a) g) 0 (omega arith) ok.back) in
      let second = fail_bounded a (declining r a g) mid in
      record {
        state = second.state;
        letters = both BoundedLetter n ((a, Relinquish stamp g) ∷ [])
            (fail a (declining r a g)).letters (one BoundedLetter n a (Relinquish stamp g) lt
            (bounded, small)) second.letters;
      }

  held_bounded : (a : ℕ) (stamp : Stamp) (g : ℕ) (r : RequesterState) → a < n → BoundedStamp n stamp
      → IsU64 g → BoundedRequester n r → BoundedRequesterDone {A = Unit {0}} n
      (inquired_held a stamp g r)
  held_bounded a stamp g r lt bounded small ok =
      cond_case (λ d. BoundedRequesterDone {A = Unit {0}} n d) (has_failed_below r r.count)
      (saying (giving_now r a g) a (Relinquish stamp g)) (becoming (remembering r a g))
      (λ _. record {
        state = search (
          put_at IsU64 r.held a None (none_held IsU64) ok.held,
          set_at IsU64 r.back a g 0 small ok.back,
        );
        letters = one BoundedLetter n a (Relinquish stamp g) lt (bounded, small);
      })
      (λ _. record {
        state = search (put_at IsU64 r.remembered a (Some g) (λ x. one_held IsU64 g x small)
            ok.remembered);
        letters = nil BoundedLetter n;
      })

  inquired_bounded : (o : Option ℕ) (a : ℕ) (stamp : Stamp) (g : ℕ) (r : RequesterState) → a < n
      → BoundedStamp n stamp → IsU64 g → BoundedRequester n r
      → BoundedRequesterDone {A = Unit {0}} n (inquired o a stamp g r)
  inquired_bounded None a stamp g r lt bounded small ok =
      missing_bounded a stamp g r lt bounded small ok
  inquired_bounded (Some h) a stamp g r lt bounded small ok =
      cond_case (λ d. BoundedRequesterDone {A = Unit {0}} n d) (nat_eq h g)
      (inquired_held a stamp g r) (saying r a (Relinquish stamp g))
      (λ _. held_bounded a stamp g r lt bounded small ok)
      (λ _. record {
        state = ok;
        letters = one BoundedLetter n a (Relinquish stamp g) lt (bounded, small);
      })

  pub inquire_bounded : (a : ℕ) (stamp : Stamp) (g : ℕ) (r : RequesterState) → a < n
      → BoundedStamp n stamp → IsU64 g → BoundedRequester n r
      → BoundedRequesterDone {A = Unit {0}} n (take_inquire a stamp g r)
  inquire_bounded a stamp g r lt bounded small ok =
      cond_case (λ d. BoundedRequesterDone {A = Unit {0}} n d) (is_current_wait r stamp)
      (inquired (held_at r a) a stamp g r) (release_ended r stamp a)
      (λ _. inquired_bounded (held_at r a) a stamp g r lt bounded small ok)
      (λ _. released_bounded r stamp a bounded lt ok)

  -- enter

  pub entering_bounded : (r : RequesterState) → r.top < r.limit → BoundedRequester n r
      → BoundedRequester n (entering r)
  entering_bounded r lt ok = search (arith, none_at IsU64 21)

  -- leave and cancel

  pub ended_bounded : (r : RequesterState) → BoundedRequester n r
      → BoundedRequesterDone {A = Unit {0}} n (ended r)
  ended_bounded r ok = record {
    state = search (none_at IsU64 21);
    letters = to_own_bounded r (Release r.ours r.top) ok (ok.ours, ok.top);
  }

  -- tick

  pub again_bounded : (r : RequesterState) → BoundedRequester n r
      → AreBounded BoundedLetter n (request_again r)
  again_bounded r ok =
      cond_case (λ ls. AreBounded BoundedLetter n ls) (is_waiting r.phase)
      (addressed (to_missing r (Request r.ours)) r.count) []
      (λ _ b x sent.
      let p = in_addressed (to_missing r (Request r.ours)) r.count b x sent in
      let q = sent_if (is_own r b && not (holds r b)) (Request r.ours) x p.1 in (
        ok.own b (and_true (is_own r b) (not (holds r b)) q.0).0,
        subst (λ y. BoundedLetter n y) (sym q.1) ok.ours,
      ))
      (λ _. nil BoundedLetter n)
