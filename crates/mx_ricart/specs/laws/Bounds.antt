-- Each row keeps each number a u64 value and each name a node, whatever else holds.
use Rattle.std.proofs.Common.{ℕ, ◌<◌, ◌≤◌, ◌^◌, ◌≡◌, Bool, cond, not, ◌&&◌, ◌||◌, Option, Some, None, max, nat_eq, refl, sym, subst, arith}
use Rattle.mx_stamps.specs.declared.stamp.Stamp.{Stamp}
use Rattle.mx_stamps.specs.Stamp.{is_before_of, is_same_as}
use Rattle.mx_stamps.proofs.Choices.{cond_case}
use Rattle.mx_stamps.specs.Numbers.{last_number}
use Rattle.mx_letters.specs.declared.ricart.RicartMsg.{RicartMsg}
use Rattle.mx_letters.specs.declared.ricart.RicartMsg.TheVariants.{Request, Reply}
use Rattle.mx_nodelaws.specs.World.{Done, becoming, addressed}
use Rattle.mx_nodelaws.specs.Phases.{is_busy, is_waiting}
use Rattle.mx_nodelaws.specs.Bounds.{IsU64, BoundedStamp, AreBounded, IsBoundedDone}
use Rattle.mx_nodelaws.proofs.Worlds.{in_addressed}
use Rattle.mx_nodelaws.proofs.Bounds.{nil, one, none_at, one_held, put_at}
use Rattle.mx_nodelaws.proofs.Sent.{sent_unless}
use Rattle.mx_ricart.specs.Node.{Node}
use Rattle.mx_ricart.specs.Step.{IsCount, start_of, is_other, has_reply, deferred_at, asking, asked, seeing, later_of, deferring, replied, take_request, counting, take_reply, deliver_of, entering, reply_deferred, ended, ticked, tick_of}
use Rattle.mx_ricart.specs.Good.{BoundedLetter, BoundedNode}
use Rattle.mx_ricart.specs.laws.Rows.{sent_reply}

-- a step after which each number is a u64 value, and each name a node
abbrev pub BoundedDone : {A : Type 0} → ℕ → Done Node A RicartMsg → Type 0
BoundedDone n done = IsBoundedDone BoundedNode BoundedLetter n done

module _ (n : ℕ) (s : Node) (ok : BoundedNode n s) where
  as_was : BoundedDone {A = Unit {0}} n (becoming s)
  as_was = record { state = ok; letters = nil BoundedLetter n }

  -- a request to some nodes of the cluster
  requests_bounded : (stamp : Stamp) → BoundedStamp n stamp → (skips : ℕ → Bool)
      → AreBounded BoundedLetter n (addressed
      (λ j. cond (skips j) None (Some (Request stamp))) s.count)
  requests_bounded stamp bounded skips b m sent =
      let r = in_addressed (λ j. cond (skips j) None (Some (Request stamp))) s.count b m sent in
      let few = ok.count in (
        omega (arith, r.0),
        subst (λ x. BoundedLetter n x)
            (sym (sent_unless (skips b) (Request stamp) m r.1).1) bounded,
      )

  pub asked_bounded : s.highest < last_number → BoundedDone n (asked s)
  asked_bounded lt = record {
    state = search arith;
    letters = requests_bounded (asking s).ours (omega arith, ok.me) (λ j. nat_eq j s.me);
  }

  -- a request comes

  later_bounded : (o : Option Stamp) (stamp : Stamp)
      → ((u : Stamp) → o ≡ Some u → BoundedStamp n u) → BoundedStamp n stamp
      → BoundedStamp n (later_of o stamp)
  later_bounded None stamp old bounded = bounded
  later_bounded (Some u) stamp old bounded = cond_case (BoundedStamp n) (is_before_of u stamp)
      stamp u (λ _. bounded) (λ _. old u refl)

  waits_bounded : (stamp : Stamp) → BoundedStamp n stamp → (j : ℕ) (d : Stamp)
      → deferred_at (deferring s stamp) j ≡ Some d → BoundedStamp n d
  waits_bounded stamp bounded =
      let later = later_of (deferred_at s stamp.node) stamp in
      put_at (BoundedStamp n) s.deferred stamp.node (Some later)
      (λ d. one_held (BoundedStamp n) later d
      (later_bounded (deferred_at s stamp.node) stamp (ok.waits stamp.node) bounded)) ok.waits

  request_bounded : (stamp : Stamp) → BoundedStamp n stamp
      → BoundedDone {A = Unit {0}} n (take_request s stamp)
  request_bounded stamp bounded =
      let seen : IsU64 (max s.highest stamp.number) =
      (let a = ok.highest in let b = bounded.0 in omega arith) in
      cond_case (λ d. BoundedDone {A = Unit {0}} n d) (is_busy s.phase && is_before_of s.ours stamp)
      (becoming (deferring (seeing s stamp.number) stamp))
      (replied (seeing s stamp.number) stamp)
      (λ _. record {
        state = search (arith, waits_bounded stamp bounded);
        letters = nil BoundedLetter n;
      })
      (λ _. record {
        state = search arith;
        letters = one BoundedLetter n stamp.node (Reply stamp s.top) bounded.1 (bounded, ok.top);
      })

  -- a reply comes

  reply_bounded : (from : ℕ) (stamp : Stamp) (top : ℕ) → IsU64 top
      → BoundedDone {A = Unit {0}} n (take_reply s from stamp top)
  reply_bounded from stamp top small =
      cond_case (λ d. BoundedDone {A = Unit {0}} n d)
      (is_waiting s.phase && (is_same_as stamp s.ours && not (has_reply s from)))
      (becoming (counting s from top)) (becoming s)
      (λ _. record {
        state = search arith;
        letters = nil BoundedLetter n;
      })
      (λ _. as_was)

  pub deliver_bounded : (from : ℕ) (m : RicartMsg) → BoundedLetter n m
      → BoundedDone {A = Unit {0}} n (deliver_of from m s)
  deliver_bounded from (Request stamp) bounded =
      cond_case (λ d. BoundedDone {A = Unit {0}} n d) (is_other s from && nat_eq stamp.node from)
      (take_request s stamp) (becoming s)
      (λ _. request_bounded stamp bounded) (λ _. as_was)
  deliver_bounded from (Reply stamp top) bounded =
      cond_case (λ d. BoundedDone {A = Unit {0}} n d) (is_other s from)
      (take_reply s from stamp top) (becoming s)
      (λ _. reply_bounded from stamp top bounded.1) (λ _. as_was)

  -- enter

  pub entering_bounded : s.top < s.limit → BoundedNode n (entering s)
  entering_bounded lt = search arith

  -- leave and cancel

  pub ended_bounded : BoundedDone n (ended s)
  ended_bounded = record {
    state = search (none_at (BoundedStamp n) 21);
    letters = λ b m sent.
        let r = in_addressed (reply_deferred s) s.count b m sent in
        let q = sent_reply (deferred_at s b) s.top m r.1 in
        let few = ok.count in
        (omega (arith, r.0), subst (λ x. BoundedLetter n x) (sym q.2) (ok.waits b q.0 q.1, ok.top));
  }

  -- tick

  pub tick_bounded : BoundedDone {A = Unit {0}} n (tick_of s)
  tick_bounded =
      cond_case (λ d. BoundedDone {A = Unit {0}} n d) (is_waiting s.phase) (ticked s) (becoming s)
      (λ _. record {
        state = ok;
        letters = requests_bounded s.ours ok.ours (λ j. nat_eq j s.me || has_reply s j);
      }) (λ _. as_was)

-- a node that has just been started

pub start_bounded : (count origin limit i : ℕ) → IsCount count → origin < 2 ^ 64 → limit ≤ 1000000
    → i < count → BoundedNode count (start_of count i origin limit)
start_bounded count origin limit i valid small high lt =
    search (arith, none_at (BoundedStamp count) 21)
