-- Each row keeps each number a u64 value, and each name a node, whatever else holds.
use Rattle.std.proofs.Common.{ℕ, ◌<◌, ◌≤◌, ◌+◌, ◌^◌, ◌≡◌, inl, inr, not, ◌&&◌, List, [], ◌∷◌, Option, Some, None, nat_eq, nat_lt, refl, sym, subst, arith, get_or, replicate, true}
use Rattle.mx_stamps.specs.declared.stamp.Stamp.{Stamp}
use Rattle.mx_stamps.proofs.Lists.{get_or_replicate}
use Rattle.mx_stamps.proofs.Choices.{cond_case}
use Rattle.mx_stamps.specs.Numbers.{last_number}
use Rattle.mx_letters.specs.declared.raymond.RaymondMsg.{RaymondMsg}
use Rattle.mx_letters.specs.declared.raymond.RaymondMsg.TheVariants.{Request, Privilege, Got}
use Rattle.mx_nodelaws.proofs.Bounds.{nil, one, both, none_held, set_at}
use Rattle.mx_nodelaws.specs.Bounds.{IsU64, AreBounded}
use Rattle.mx_nodelaws.specs.World.{answering, becoming}
use Rattle.mx_trees.specs.Tree.{Rooted, IsRooted}
use Rattle.mx_raymond.specs.declared.unacked.Unacked.{Unacked}
use Rattle.mx_raymond.specs.Queue.{is_queued, joined, without}
use Rattle.mx_raymond.specs.Node.{Node}
use Rattle.mx_raymond.specs.Step.{NodeDone, start_of, is_holder, serving, asking, asked, privilege_again, take_holders_request, heard_from, queueing, take_others_request, take_request, holding, acknowledging, take_privilege, is_unacked, take_got, is_neighbour, deliver_of, entering, leaving, left, withdrawing, cancelled, request_again, tick_of}
use Rattle.mx_raymond.specs.Good.{BoundedLetter, BoundedUnacked, BoundedNode}
use Rattle.mx_raymond.specs.laws.Tests.{queued_pushed, queued_joined, queued_without, queued_behind}
use Rattle.mx_raymond.specs.laws.ServingBounds.{BoundedDone, serving_bounded}

module _ (n : ℕ) (s : Node) (ok : BoundedNode n s) where
  as_it_was : BoundedDone {A = Unit {0}} n (becoming s)
  as_it_was = record { state = ok; letters = nil BoundedLetter n }

  -- ask

  asking_bounded : s.asks < last_number → BoundedNode n (asking s)
  asking_bounded low =
      let queue : (j : ℕ) → is_queued (asking s).queue j ≡ true → j < n =
      λ j h. elim (queued_pushed s.queue s.me j h) [
        | inl old ↦ ok.queue j old
        | inr e ↦
            (let k = ok.me in omega arith)
      ] in
      search arith

  pub asked_bounded : s.asks < last_number → BoundedDone n (asked s)
  asked_bounded low =
      let first : NodeDone Stamp = answering (becoming (asking s))
      (record { number = s.asks + 1; node = s.me }) in
      serving_bounded n first (record { state = asking_bounded low; letters = nil BoundedLetter n })

  -- a request

  again_bounded : (o : Option Unacked) → s.unacked ≡ o
      → AreBounded BoundedLetter n (privilege_again o)
  again_bounded None e = nil BoundedLetter n
  again_bounded (Some u) e =
      let p = ok.unacked u e in one BoundedLetter n u.to (Privilege u.hop u.last) p.0 (p.1, p.2)

  heard_bounded : (from number : ℕ) → IsU64 number → (j : ℕ)
      → IsU64 (heard_from (queueing s from number) j)
  heard_bounded from number small j = set_at IsU64 s.heard from number 0 small
      (λ k x e. subst IsU64 e (ok.heard k)) j (heard_from (queueing s from number) j) refl

  queueing_bounded : (from number : ℕ) → from < n → IsU64 number
      → BoundedNode n (queueing s from number)
  queueing_bounded from number lt small =
      let queue : (j : ℕ) → is_queued (joined s.queue from) j ≡ true → j < n =
      λ j h. elim (queued_joined s.queue from j h) [
        | inl old ↦ ok.queue j old
        | inr e ↦
            omega arith
      ] in
      search (heard_bounded from number small)

  request_bounded : (from number : ℕ) → from < n → IsU64 number
      → BoundedDone n (take_request from number s)
  request_bounded from number lt small =
      let P : NodeDone (Unit {0}) → Type 0 = λ d. BoundedDone n d in
      let first : NodeDone (Unit {0}) = becoming (queueing s from number) in
      cond_case P (nat_eq from s.holder) (take_holders_request s)
      (take_others_request from number s)
      (λ _. record { state = ok; letters = again_bounded s.unacked refl })
      (λ _. cond_case P (nat_lt (heard_from s from) number) (serving first) (becoming s)
      (λ _. serving_bounded n first
      (record { state = queueing_bounded from number lt small; letters = nil BoundedLetter n }))
      (λ _. as_it_was))

  -- a privilege

  holding_bounded : (hop last : ℕ) → IsU64 hop → IsU64 last → BoundedNode n (holding s hop last)
  holding_bounded hop last p q = search (arith, none_held (BoundedUnacked n))

  privilege_bounded : (from hop last : ℕ) → from < n → IsU64 hop → IsU64 last
      → BoundedDone n (take_privilege from hop last s)
  privilege_bounded from hop last lt p q =
      let P : NodeDone (Unit {0}) → Type 0 = λ d. BoundedDone n d in
      let first : NodeDone (Unit {0}) = acknowledging (holding s hop last) from hop in
      cond_case P (nat_lt s.hop hop) (serving first) (acknowledging s from hop)
      (λ _. serving_bounded n first
      (record {
        state = holding_bounded hop last p q;
        letters = one BoundedLetter n from (Got hop) lt p;
      }))
      (λ _. record { state = ok; letters = one BoundedLetter n from (Got hop) lt p })

  -- an acknowledgement

  got_bounded : (from hop : ℕ) → BoundedDone n (take_got from hop s)
  got_bounded from hop =
      let P : NodeDone (Unit {0}) → Type 0 = λ d. BoundedDone n d in
      let first : NodeDone (Unit {0}) = becoming (record s { unacked = None }) in
      cond_case P (is_unacked s.unacked from hop) first (becoming s)
      (λ _. record {
        state = search (none_held (BoundedUnacked n));
        letters = nil BoundedLetter n;
      })
      (λ _. as_it_was)

  pub deliver_bounded : (from : ℕ) (m : RaymondMsg) → from < n → BoundedLetter n m
      → BoundedDone n (deliver_of from m s)
  deliver_bounded from (Request number) lt small =
      let P : NodeDone (Unit {0}) → Type 0 = λ d. BoundedDone n d in
      cond_case P (is_neighbour s from) (take_request from number s) (becoming s)
      (λ _. request_bounded from number lt small) (λ _. as_it_was)
  deliver_bounded from (Privilege hop last) lt small =
      let P : NodeDone (Unit {0}) → Type 0 = λ d. BoundedDone n d in
      cond_case P (is_neighbour s from) (take_privilege from hop last s) (becoming s)
      (λ _. privilege_bounded from hop last lt small.0 small.1) (λ _. as_it_was)
  deliver_bounded from (Got hop) lt small =
      let P : NodeDone (Unit {0}) → Type 0 = λ d. BoundedDone n d in
      cond_case P (is_neighbour s from) (take_got from hop s) (becoming s)
      (λ _. got_bounded from hop) (λ _. as_it_was)

  -- enter

  pub entering_bounded : s.top < s.limit → BoundedNode n (entering s)
  entering_bounded lt =
      let queue : (j : ℕ) → is_queued (entering s).queue j ≡ true → j < n =
      λ j h. ok.queue j (queued_behind s.queue j h) in
      search arith

  -- leave

  leaving_bounded : BoundedNode n (leaving s)
  leaving_bounded = search

  pub left_bounded : BoundedDone n (left s)
  left_bounded =
      let first : NodeDone (Unit {0}) = becoming (leaving s) in
      serving_bounded n first (record { state = leaving_bounded; letters = nil BoundedLetter n })

  -- cancel

  withdrawing_bounded : BoundedNode n (withdrawing s)
  withdrawing_bounded =
      let queue : (j : ℕ) → is_queued (without s.queue s.me) j ≡ true → j < n =
      λ j h. ok.queue j (queued_without s.queue s.me j h).0 in
      search

  pub cancelled_bounded : BoundedDone n (cancelled s)
  cancelled_bounded =
      let first : NodeDone (Unit {0}) = becoming (withdrawing s) in
      serving_bounded n first (record {
        state = withdrawing_bounded;
        letters = nil BoundedLetter n;
      })

  -- tick

  request_again_bounded : AreBounded BoundedLetter n (request_again s)
  request_again_bounded =
      let P : List (ℕ × RaymondMsg) → Type 0 = λ ls. AreBounded BoundedLetter n ls in
      cond_case P (s.has_asked && not (is_holder s)) ((s.holder, Request s.sent) ∷ []) []
      (λ _. one BoundedLetter n s.holder (Request s.sent) ok.holder ok.sent)
      (λ _. nil BoundedLetter n)

  pub tick_bounded : BoundedDone n (tick_of s)
  tick_bounded = record {
    state = ok;
    letters = both BoundedLetter n (privilege_again s.unacked) (request_again s)
        (again_bounded s.unacked refl) request_again_bounded;
  }

-- a node that has just been started

pub start_bounded : (tree : Rooted) (origin limit i : ℕ) → IsRooted tree → origin < 2 ^ 64
    → limit ≤ 1000000 → i < tree.count → BoundedNode tree.count (start_of tree i origin limit)
start_bounded tree origin limit i valid small high lt =
    let queue : (j : ℕ) → is_queued [] j ≡ true → j < tree.count =
    λ j h. let bad : ⊥ = cc in absurd bad in
    let heard : (j : ℕ) → IsU64 (get_or (replicate 21 0) j 0) =
    λ j. subst (λ x. IsU64 x) (sym (get_or_replicate 21 j 0)) (omega arith) in
    search (arith, none_held (BoundedUnacked tree.count), valid.toward_node i lt)
