-- From what an algorithm proves of its own rows: the promises on phases, and the laws.
use Rattle.std.proofs.Common.{ℕ, ◌<◌, ◌≤◌, ◌^◌, ◌≡◌, ◌&&◌, Result, Ok, Err, length, true, cond, ◌+◌, nat_lt, refl, sym, ap, subst}
use Rattle.mx_stamps.specs.declared.limits.TheConstants.{MAX_SECTIONS}
use Rattle.mx_stamps.specs.declared.stamp.Stamp.{Stamp}
use Rattle.mx_stamps.specs.Lists.{greatest}
use Rattle.mx_stamps.specs.Numbers.{last_number}
use Rattle.mx_stamps.proofs.Choices.{and_true, lt_true}
use Rattle.mx_nodelaws.specs.World.{World, Done, quietly, becoming, IsNode, WasSent, after}
use Rattle.mx_nodelaws.specs.Phases.{is_waiting}
use Rattle.mx_nodelaws.specs.Calls.{unchanged, ask_by, enter_by, leave_by, cancel_by}
use Rattle.mx_nodelaws.specs.Core.{KeepsPhases, IsInside}
use Rattle.mx_nodelaws.specs.Bounds.{IsBoundedDone}
use Rattle.mx_nodelaws.specs.Laws.{KeepsGood, started}
use Rattle.mx_nodelaws.specs.Rows.{Rows, core_of, KeepsCourse, KeepsSafe, KeepsBounds, IsGoodWorld}
use Rattle.mx_nodelaws.specs.declared.phase.Phase.{Phase}
use Rattle.mx_nodelaws.specs.declared.phase.Phase.TheVariants.{Idle, Waiting, Inside}
use Rattle.mx_nodelaws.specs.declared.faults.AskFault.{AskFault}
use Rattle.mx_nodelaws.specs.declared.faults.AskFault.TheVariants.{NotIdle, StampsSpent}
use Rattle.mx_nodelaws.specs.declared.faults.CancelFault.{CancelFault}
use Rattle.mx_nodelaws.specs.declared.faults.CancelFault.TheVariants as cancel
use Rattle.mx_nodelaws.specs.declared.faults.EnterFault.{EnterFault}
use Rattle.mx_nodelaws.specs.declared.faults.EnterFault.TheVariants.{NotWaiting, NotGranted, NumbersSpent}
use Rattle.mx_nodelaws.specs.declared.faults.LeaveFault.{LeaveFault}
use Rattle.mx_nodelaws.specs.declared.faults.LeaveFault.TheVariants.{NotInside}
use Rattle.mx_nodelaws.proofs.Phases.{waits_alone, waiting_is}
use Rattle.mx_nodelaws.proofs.Worlds.{nothing_kept}
use Rattle.mx_nodelaws.proofs.Bounds.{nil, bounded_after, bounded_by, bounded_start}
use Rattle.mx_nodelaws.proofs.Calls.{ask_cases, ask_keeps, ask_ok, ask_err, ask_not_idle, enter_cases, enter_keeps, enter_ok, enter_err, enter_not_waiting, enter_not_granted, granted_answer, leave_keeps, leave_ok, leave_inside, leave_err, cancel_keeps, cancel_ok, cancel_err, cancel_not_waiting}

pub phases_of : {H S M : Type 0} (rows : Rows H S M) → KeepsCourse rows → KeepsPhases (core_of rows)
phases_of rows keeps = record {
  started_idle = λ shape i origin limit. ap (λ c. c.phase) (keeps.start shape i origin limit);
  started_mine = λ shape i origin limit. ap (λ c. c.mine) (keeps.start shape i origin limit);
  started_limit = λ shape i origin limit. ap (λ c. c.limit) (keeps.start shape i origin limit);
  ask_ok = λ s x h. ask_ok rows.counter rows.ask rows.phase (rows.phase s) s x (ap (λ c. c.phase) (keeps.ask s)) h;
  ask_err = λ s f h. ask_err rows.counter rows.ask (rows.phase s) s f h;
  ask_not_idle = λ s. ask_not_idle rows.counter rows.ask (rows.phase s) s;
  ask_mine = λ s. ask_keeps rows.counter rows.ask rows.mine (rows.phase s) s (ap (λ c. c.mine) (keeps.ask s));
  ask_limit = λ s. ask_keeps rows.counter rows.ask rows.limit (rows.phase s) s (ap (λ c. c.limit) (keeps.ask s));
  deliver_phase = λ from m s. ap (λ c. c.phase) (keeps.deliver from m s);
  deliver_mine = λ from m s. ap (λ c. c.mine) (keeps.deliver from m s);
  deliver_limit = λ from m s. ap (λ c. c.limit) (keeps.deliver from m s);
  can_enter_waiting = λ s h. waits_alone (rows.phase s) (rows.is_granted s) h;
  enter_ok = λ s n h. enter_ok rows.is_granted rows.top rows.limit rows.enter rows.phase rows.mine (rows.phase s) s n (ap (λ c. c.phase) (keeps.enter s)) (ap (λ c. c.mine) (keeps.enter s)) h;
  enter_err = λ s f h. enter_err rows.is_granted rows.top rows.limit rows.enter (rows.phase s) s f h;
  enter_not_waiting = λ s. enter_not_waiting rows.is_granted rows.top rows.limit rows.enter (rows.phase s) s;
  enter_not_granted = λ s. enter_not_granted rows.is_granted rows.top rows.limit rows.enter (rows.phase s) s;
  enter_limit = λ s. enter_keeps rows.is_granted rows.top rows.limit rows.enter rows.limit (rows.phase s) s (ap (λ c. c.limit) (keeps.enter s));
  leave_inside = λ s n. leave_inside rows.leave (rows.phase s) s n;
  leave_ok = λ s n h. leave_ok rows.leave rows.phase (rows.phase s) s n (ap (λ c. c.phase) (keeps.leave s)) h;
  leave_err = λ s f h. leave_err rows.leave (rows.phase s) s f h;
  leave_mine = λ s. leave_keeps rows.leave rows.mine (rows.phase s) s (ap (λ c. c.mine) (keeps.leave s));
  leave_limit = λ s. leave_keeps rows.leave rows.limit (rows.phase s) s (ap (λ c. c.limit) (keeps.leave s));
  cancel_ok = λ s h. cancel_ok rows.cancel rows.phase (rows.phase s) s (ap (λ c. c.phase) (keeps.cancel s)) h;
  cancel_err = λ s f h. cancel_err rows.cancel (rows.phase s) s f h;
  cancel_not_waiting = λ s. cancel_not_waiting rows.cancel (rows.phase s) s;
  cancel_mine = λ s. cancel_keeps rows.cancel rows.mine (rows.phase s) s (ap (λ c. c.mine) (keeps.cancel s));
  cancel_limit = λ s. cancel_keeps rows.cancel rows.limit (rows.phase s) s (ap (λ c. c.limit) (keeps.cancel s));
  tick_phase = λ s. ap (λ c. c.phase) (keeps.tick s);
  tick_mine = λ s. ap (λ c. c.mine) (keeps.tick s);
  tick_limit = λ s. ap (λ c. c.limit) (keeps.tick s);
}

module _ {H S M : Type 0} (rows : Rows H S M) (IsShape : H → Type 0) (Safe : World S M → Type 0) (Node : ℕ → S → Type 0) (Letter : ℕ → M → Type 0) (safe : KeepsSafe rows IsShape Safe) (bounds : KeepsBounds rows IsShape Node Letter) where
  abbrev Good : World S M → Type 0
  Good w = IsGoodWorld Safe Node Letter w

  start_good : (shape : H) (origin limit : ℕ) → IsShape shape → origin < 2 ^ 64 → 0 < limit → limit ≤ MAX_SECTIONS → Good (started (core_of rows) shape origin limit)
  start_good shape origin limit valid small low high = record {
    safe = safe.start shape origin limit valid;
    bounded = bounded_start Node Letter (λ i. rows.start shape i origin limit) (rows.count shape) (λ i lt. bounds.start shape origin limit i valid small high lt);
  }

  module _ (w : World S M) (i : ℕ) (s : S) (good : Good w) (at : IsNode w i s) where
    bound : Node (length w.nodes) s
    bound = good.bounded.nodes i s at

    -- a row that is safe and bounded
    row_good : {A : Type 0} (done : Done S A M) → Safe (after w i done) → IsBoundedDone Node Letter (length w.nodes) done → Good (after w i done)
    row_good done kept bounded = record { safe = kept; bounded = bounded_after Node Letter w i s done good.bounded at bounded }

    -- a refusal
    same : {A : Type 0} (answer : A) → Good (after w i (unchanged s answer))
    same answer = nothing_kept Good w i s answer good at

    ask_good : (p : Phase) → rows.phase s ≡ p → Good (after w i (ask_by rows.counter rows.ask p s))
    ask_good Idle e =
        ask_cases rows.counter rows.ask (λ d. Good (after w i d)) s
        (λ low. row_good (rows.ask s) (safe.ask w i s good.safe at e) (bounds.ask (length w.nodes) s bound (lt_true (rows.counter s) last_number low)))
        (same {A = Result Stamp AskFault} (Err StampsSpent))
    ask_good Waiting e = same {A = Result Stamp AskFault} (Err NotIdle)
    ask_good (Inside n) e = same {A = Result Stamp AskFault} (Err NotIdle)

    deliver_good : (from : ℕ) (m : M) → WasSent w from i m → Good (after w i (rows.deliver from m s))
    deliver_good from m sent =
        let p = good.bounded.letters from i m sent in
        row_good (rows.deliver from m s) (safe.deliver w i s good.safe at from m sent) (bounds.deliver (length w.nodes) s bound from m p.0 p.2)

    refused_good : (fault : EnterFault) → Good (after w i (unchanged {A = Result ℕ EnterFault} s (Err fault)))
    refused_good fault = same {A = Result ℕ EnterFault} (Err fault)

    enter_good : (p : Phase) → rows.phase s ≡ p → Good (after w i (quietly (enter_by rows.is_granted rows.top rows.limit rows.enter p s)))
    enter_good Idle e = refused_good NotWaiting
    enter_good Waiting e =
        enter_cases rows.is_granted rows.top rows.limit rows.enter (λ d. Good (after w i (quietly d))) s
        (λ granted low. row_good {A = Unit {0}} (becoming (rows.enter s)) (safe.enter w i s good.safe at e granted) (record { state = bounds.enter (length w.nodes) s bound (lt_true (rows.top s) (rows.limit s) low); letters = nil Letter (length w.nodes) }))
        (refused_good NumbersSpent) (λ _. refused_good NotGranted)
    enter_good (Inside n) e = refused_good NotWaiting

    leave_good : (p : Phase) → rows.phase s ≡ p → Good (after w i (leave_by rows.leave p s))
    leave_good Idle e = same {A = Result ℕ LeaveFault} (Err NotInside)
    leave_good Waiting e = same {A = Result ℕ LeaveFault} (Err NotInside)
    leave_good (Inside n) e = row_good (rows.leave s) (safe.leave w i s good.safe at n e) (bounds.leave (length w.nodes) s bound)

    cancel_good : (p : Phase) → rows.phase s ≡ p → Good (after w i (cancel_by rows.cancel p s))
    cancel_good Idle e = same {A = Result (Unit {0}) CancelFault} (Err cancel.NotWaiting)
    cancel_good Waiting e = row_good (rows.cancel s) (safe.cancel w i s good.safe at e) (bounds.cancel (length w.nodes) s bound)
    cancel_good (Inside n) e = same {A = Result (Unit {0}) CancelFault} (Err cancel.NotWaiting)

    tick_good : Good (after w i (rows.tick s))
    tick_good = row_good (rows.tick s) (safe.tick w i s good.safe at) (bounds.tick (length w.nodes) s bound)

    entry : (is_waiting (rows.phase s) && rows.is_granted s) ≡ true →
        ((j : ℕ) (t : S) → IsNode w j t → IsInside (core_of rows) t → ⊥)
        × ((enter_by rows.is_granted rows.top rows.limit rows.enter (rows.phase s) s).answer ≡ cond (nat_lt (greatest rows.mine w.nodes) (rows.limit s)) (Ok (greatest rows.mine w.nodes + 1)) (Err NumbersSpent))
    entry can =
        let p = and_true (is_waiting (rows.phase s)) (rows.is_granted s) can in
        let waiting = waiting_is (rows.phase s) p.0 in (
          safe.nobody_inside w i s good.safe at waiting p.1,
          subst (λ g. (enter_by rows.is_granted rows.top rows.limit rows.enter (rows.phase s) s).answer ≡ cond (nat_lt g (rows.limit s)) (Ok (g + 1)) (Err NumbersSpent)) (sym (safe.top_greatest w i s good.safe at waiting p.1))
              (granted_answer rows.is_granted rows.top rows.limit rows.enter (rows.phase s) s waiting p.1),
        )

  pub laws_of : KeepsGood (core_of rows) IsShape Good
  laws_of = record {
    at_start = start_good;
    after_ask = λ w i s good at. ask_good w i s good at (rows.phase s) refl;
    after_deliver = λ w i s from m good at sent. deliver_good w i s good at from m sent;
    after_enter = λ w i s good at. enter_good w i s good at (rows.phase s) refl;
    after_leave = λ w i s good at. leave_good w i s good at (rows.phase s) refl;
    after_cancel = λ w i s good at. cancel_good w i s good at (rows.phase s) refl;
    after_tick = tick_good;
    by_membership = λ w sent same good. record { safe = safe.by_membership w sent same good.safe; bounded = bounded_by Node Letter w sent same good.bounded };
    to_nodes = λ w a b m good sent. (good.bounded.letters a b m sent).1;
    one_inside = λ w i j s t good. safe.one_inside w i j s t good.safe;
    entry = λ w i s good at can. entry w i s good at can;
  }
