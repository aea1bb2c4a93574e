-- Assign and Make keep each number a u64 value, and each name a node.
use Rattle.std.proofs.Common.{ℕ, ◌<◌, ◌+◌, ◌≡◌, Option, Some, None, true, refl, arith}
use Rattle.mx_stamps.proofs.Choices.{cond_case}
use Rattle.mx_stamps.specs.Numbers.{last_number}
use Rattle.mx_letters.specs.declared.raymond.RaymondMsg.TheVariants.{Request, Privilege}
use Rattle.mx_nodelaws.proofs.Bounds.{nil, one, both, one_held}
use Rattle.mx_nodelaws.specs.Bounds.{IsBoundedDone}
use Rattle.mx_nodelaws.specs.World.{becoming, and_then}
use Rattle.mx_raymond.specs.declared.unacked.Unacked.{Unacked}
use Rattle.mx_raymond.specs.Queue.{head_of, is_queued}
use Rattle.mx_raymond.specs.Node.{Node}
use Rattle.mx_raymond.specs.Step.{NodeDone, can_pass, passed, assign_privilege_to, assign_privilege, must_request, requested, make_request, serving}
use Rattle.mx_raymond.specs.Good.{BoundedLetter, BoundedUnacked, BoundedNode}
use Rattle.mx_raymond.specs.laws.Tests.{queued_behind, queued_head, may_pass, may_request}

-- a step after which each number is a u64 value, and each name a node
abbrev pub BoundedDone : {A : Type 0} → ℕ → NodeDone A → Type 0
BoundedDone n step = IsBoundedDone BoundedNode BoundedLetter n step

module _ (n : ℕ) where
  still_bounded : (s : Node) → BoundedNode n s → BoundedDone {A = Unit {0}} n (becoming s)
  still_bounded s ok = record { state = ok; letters = nil BoundedLetter n }

  passed_bounded : (s : Node) (next : ℕ) → next < n → s.hop < last_number → BoundedNode n s
      → BoundedDone n (passed s next)
  passed_bounded s next lt low ok = record {
    state =
        let sent : Unacked = record { to = next; hop = s.hop + 1; last = s.top } in
        let queue : (j : ℕ) → is_queued (passed s next).state.queue j ≡ true → j < n =
        λ j h. ok.queue j (queued_behind s.queue j h) in
        search (
          arith,
          (λ (u : Unacked). one_held (BoundedUnacked n) sent u (lt, omega arith, ok.top)),
        );
    letters = one BoundedLetter n next (Privilege (s.hop + 1) s.top) lt (omega arith, ok.top);
  }

  assign_to_bounded : (o : Option ℕ) (s : Node) → head_of s.queue ≡ o → BoundedNode n s
      → BoundedDone n (assign_privilege_to o s)
  assign_to_bounded None s e ok = still_bounded s ok
  assign_to_bounded (Some next) s e ok =
      let P : NodeDone (Unit {0}) → Type 0 = λ d. BoundedDone n d in
      cond_case P (can_pass s next) (passed s next) (becoming s)
      (λ can. passed_bounded s next (ok.queue next (queued_head s.queue next e))
      (may_pass s next can).hop ok)
      (λ _. still_bounded s ok)

  assign_bounded : (s : Node) → BoundedNode n s → BoundedDone n (assign_privilege s)
  assign_bounded s ok = assign_to_bounded (head_of s.queue) s refl ok

  requested_bounded : (s : Node) → s.sent < last_number → BoundedNode n s
      → BoundedDone n (requested s)
  requested_bounded s low ok = record {
    state = search arith;
    letters = one BoundedLetter n s.holder (Request (s.sent + 1)) ok.holder (omega arith);
  }

  make_bounded : (s : Node) → BoundedNode n s → BoundedDone n (make_request s)
  make_bounded s ok =
      let P : NodeDone (Unit {0}) → Type 0 = λ d. BoundedDone n d in
      cond_case P (must_request s) (requested s) (becoming s)
      (λ must. requested_bounded s (may_request s must) ok)
      (λ _. still_bounded s ok)

  then_bounded : {A : Type 0} (first : NodeDone A) (second : Node → NodeDone (Unit {0}))
      → ((s : Node) → BoundedNode n s → BoundedDone n (second s)) → BoundedDone n first
      → BoundedDone n (and_then first second)
  then_bounded first second keeps ok =
      let next = keeps first.state ok.state in
      record {
        state = next.state;
        letters = both BoundedLetter n first.letters (second first.state).letters ok.letters next.letters;
      }

  pub serving_bounded : {A : Type 0} (step : NodeDone A) → BoundedDone n step
      → BoundedDone n (serving step)
  serving_bounded step ok = then_bounded (and_then step assign_privilege) make_request make_bounded
      (then_bounded step assign_privilege assign_bounded ok)
