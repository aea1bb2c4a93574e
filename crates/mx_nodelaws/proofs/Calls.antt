-- The promises of calls by phase.
use Rattle.std.proofs.Common.{ℕ, ◌+◌, ◌≡◌, ◌≢◌, ◌↔◌, Bool, true, false, cond, ◌&&◌, [], Result, Ok, Err, nat_lt, refl, ◌∙◌, ap, if◌then◌else◌}
use Rattle.mx_stamps.specs.declared.stamp.Stamp.{Stamp}
use Rattle.mx_stamps.proofs.Choices.{cond_case}
use Rattle.mx_stamps.specs.Numbers.{last_number}
use Rattle.mx_nodelaws.specs.World.{Done, Quiet, answering}
use Rattle.mx_nodelaws.specs.Phases.{is_waiting}
use Rattle.mx_nodelaws.specs.Calls.{unchanged, refused, ask_by, entered_by, enter_by, leave_by, cancel_by}
use Rattle.mx_nodelaws.specs.declared.phase.Phase.{Phase}
use Rattle.mx_nodelaws.specs.declared.phase.Phase.TheVariants.{Idle, Waiting, Inside}
use Rattle.mx_nodelaws.specs.declared.faults.AskFault.{AskFault}
use Rattle.mx_nodelaws.specs.declared.faults.AskFault.TheVariants.{NotIdle, StampsSpent}
use Rattle.mx_nodelaws.specs.declared.faults.CancelFault.{CancelFault}
use Rattle.mx_nodelaws.specs.declared.faults.CancelFault.TheVariants as cancel
use Rattle.mx_nodelaws.specs.declared.faults.EnterFault.{EnterFault}
use Rattle.mx_nodelaws.specs.declared.faults.EnterFault.TheVariants.{NotWaiting, NotGranted, NumbersSpent}
use Rattle.mx_nodelaws.specs.declared.faults.LeaveFault.{LeaveFault}

module _ {S M : Type 0} (counter : S → ℕ) (asked : S → Done S Stamp M) where
  pub ask_cases : (P : Done S (Result Stamp AskFault) M → Type 0) (s : S) → (nat_lt (counter s) last_number ≡ true → P (answering (asked s) (Ok (asked s).answer))) → P (unchanged s (Err StampsSpent)) → P (ask_by counter asked Idle s)
  ask_cases P s low spent = cond_case P (nat_lt (counter s) last_number) (answering (asked s) (Ok (asked s).answer)) (unchanged s (Err StampsSpent)) low (λ _. spent)

  -- what asking keeps is kept, whatever the answer is
  pub ask_keeps : {X : Type 0} (part : S → X) (p : Phase) (s : S) → part (asked s).state ≡ part s → part (ask_by counter asked p s).state ≡ part s
  ask_keeps part Idle s kept = ask_cases (λ d. part d.state ≡ part s) s (λ _. kept) refl
  ask_keeps part Waiting s kept = refl
  ask_keeps part (Inside n) s kept = refl

  pub ask_ok : (phase : S → Phase) (p : Phase) (s : S) (x : Stamp) → phase (asked s).state ≡ Waiting → (ask_by counter asked p s).answer ≡ Ok x → (p ≡ Idle) × (phase (ask_by counter asked p s).state ≡ Waiting)
  ask_ok phase Idle s x waits h = (refl, ask_cases (λ d. d.answer ≡ Ok x → phase d.state ≡ Waiting) s (λ _ _. waits) (λ g. let bad : ⊥ = cc in absurd bad) h)
  ask_ok phase Waiting s x waits h = let bad : ⊥ = cc in absurd bad
  ask_ok phase (Inside n) s x waits h = let bad : ⊥ = cc in absurd bad

  pub ask_err : (p : Phase) (s : S) (f : AskFault) → (ask_by counter asked p s).answer ≡ Err f → ((ask_by counter asked p s).state ≡ s) × ((ask_by counter asked p s).letters ≡ [])
  ask_err Idle s f h = ask_cases (λ d. d.answer ≡ Err f → (d.state ≡ s) × (d.letters ≡ [])) s (λ _ g. let bad : ⊥ = cc in absurd bad) (λ _. (refl, refl)) h
  ask_err Waiting s f h = (refl, refl)
  ask_err (Inside n) s f h = (refl, refl)

  pub ask_not_idle : (p : Phase) (s : S) → ((ask_by counter asked p s).answer ≡ Err NotIdle) ↔ (p ≢ Idle)
  ask_not_idle Idle s = (
    λ h _. ask_cases (λ d. d.answer ≡ Err NotIdle → ⊥) s (λ _ g. let bad : ⊥ = cc in bad) (λ g. let bad : ⊥ = cc in bad) h,
    λ ne. absurd (ne refl),
  )
  ask_not_idle Waiting s = (λ _ e. let bad : ⊥ = cc in bad, λ _. refl)
  ask_not_idle (Inside n) s = (λ _ e. let bad : ⊥ = cc in bad, λ _. refl)

-- where a permission is missing, and where every one is there
missed : {S A : Type 0} (granted : Bool) (y z : Quiet S A) → granted ≡ false → (cond granted y z).answer ≡ z.answer
missed true y z e = let bad : ⊥ = cc in absurd bad
missed false y z e = refl

chosen : {S A : Type 0} (granted low : Bool) (x y z : Quiet S A) → granted ≡ true → (cond granted (cond low x y) z).answer ≡ cond low x.answer y.answer
chosen true true x y z e = refl
chosen true false x y z e = refl
chosen false low x y z e = let bad : ⊥ = cc in absurd bad

module _ {S : Type 0} (granted : S → Bool) (top limit : S → ℕ) (entering : S → S) where
  pub enter_cases : (P : Quiet S (Result ℕ EnterFault) → Type 0) (s : S) → (granted s ≡ true → nat_lt (top s) (limit s) ≡ true → P (entered_by top entering s)) → P (refused s NumbersSpent) → (granted s ≡ false → P (refused s NotGranted)) → P (enter_by granted top limit entering Waiting s)
  enter_cases P s enters spent missing =
      cond_case P (granted s) (if nat_lt (top s) (limit s) then entered_by top entering s else refused s NumbersSpent) (refused s NotGranted)
      (λ all. cond_case P (nat_lt (top s) (limit s)) (entered_by top entering s) (refused s NumbersSpent) (enters all) (λ _. spent))
      missing

  -- what entering keeps is kept, whatever the answer is
  pub enter_keeps : {X : Type 0} (part : S → X) (p : Phase) (s : S) → part (entering s) ≡ part s → part (enter_by granted top limit entering p s).state ≡ part s
  enter_keeps part Idle s kept = refl
  enter_keeps part Waiting s kept = enter_cases (λ d. part d.state ≡ part s) s (λ _ _. kept) refl (λ _. refl)
  enter_keeps part (Inside n) s kept = refl

  pub enter_ok : (phase : S → Phase) (mine : S → ℕ) (p : Phase) (s : S) (n : ℕ) → phase (entering s) ≡ Inside (top s + 1) → mine (entering s) ≡ top s + 1 → (enter_by granted top limit entering p s).answer ≡ Ok n →
      ((is_waiting p && granted s) ≡ true) × (phase (enter_by granted top limit entering p s).state ≡ Inside n) × (mine (enter_by granted top limit entering p s).state ≡ n)
  enter_ok phase mine Idle s n inside own h = let bad : ⊥ = cc in absurd bad
  enter_ok phase mine Waiting s n inside own h =
      enter_cases (λ d. d.answer ≡ Ok n → (granted s ≡ true) × (phase d.state ≡ Inside n) × (mine d.state ≡ n)) s
      (λ all _ k. let e : top s + 1 ≡ n = cc in (all, inside ∙ ap Inside e, own ∙ e))
      (λ k. let bad : ⊥ = cc in absurd bad)
      (λ _ k. let bad : ⊥ = cc in absurd bad)
      h
  enter_ok phase mine (Inside m) s n inside own h = let bad : ⊥ = cc in absurd bad

  pub enter_err : (p : Phase) (s : S) (f : EnterFault) → (enter_by granted top limit entering p s).answer ≡ Err f → (enter_by granted top limit entering p s).state ≡ s
  enter_err Idle s f h = refl
  enter_err Waiting s f h = enter_cases (λ d. d.answer ≡ Err f → d.state ≡ s) s (λ _ _ k. let bad : ⊥ = cc in absurd bad) (λ _. refl) (λ _ _. refl) h
  enter_err (Inside m) s f h = refl

  pub enter_not_waiting : (p : Phase) (s : S) → ((enter_by granted top limit entering p s).answer ≡ Err NotWaiting) ↔ (p ≢ Waiting)
  enter_not_waiting Idle s = (λ _ e. let bad : ⊥ = cc in bad, λ _. refl)
  enter_not_waiting Waiting s = (
    λ h _. enter_cases (λ d. d.answer ≡ Err NotWaiting → ⊥) s (λ _ _ k. let bad : ⊥ = cc in bad) (λ k. let bad : ⊥ = cc in bad) (λ _ k. let bad : ⊥ = cc in bad) h,
    λ ne. absurd (ne refl),
  )
  enter_not_waiting (Inside n) s = (λ _ e. let bad : ⊥ = cc in bad, λ _. refl)

  pub enter_not_granted : (p : Phase) (s : S) → ((enter_by granted top limit entering p s).answer ≡ Err NotGranted) ↔ ((p ≡ Waiting) × ((is_waiting p && granted s) ≡ false))
  enter_not_granted Idle s = (λ h. let bad : ⊥ = cc in absurd bad, λ h. let e : Idle ≡ Waiting = h.0 in let bad : ⊥ = cc in absurd bad)
  enter_not_granted Waiting s = (
    λ h. (refl, enter_cases (λ d. d.answer ≡ Err NotGranted → granted s ≡ false) s (λ _ _ k. let bad : ⊥ = cc in absurd bad) (λ k. let bad : ⊥ = cc in absurd bad) (λ missing _. missing) h),
    λ h. missed (granted s) (if nat_lt (top s) (limit s) then entered_by top entering s else refused s NumbersSpent) (refused s NotGranted) h.1,
  )
  enter_not_granted (Inside n) s = (λ h. let bad : ⊥ = cc in absurd bad, λ h. let e : Inside n ≡ Waiting = h.0 in let bad : ⊥ = cc in absurd bad)

  -- where every permission is there, the limit alone decides the answer
  pub granted_answer : (p : Phase) (s : S) → p ≡ Waiting → granted s ≡ true → (enter_by granted top limit entering p s).answer ≡ cond (nat_lt (top s) (limit s)) (Ok (top s + 1)) (Err NumbersSpent)
  granted_answer Idle s e all = let bad : ⊥ = cc in absurd bad
  granted_answer Waiting s e all = chosen (granted s) (nat_lt (top s) (limit s)) (entered_by top entering s) (refused s NumbersSpent) (refused s NotGranted) all
  granted_answer (Inside n) s e all = let bad : ⊥ = cc in absurd bad

module _ {S M : Type 0} (left : S → Done S (Unit {0}) M) where
  -- what leaving keeps is kept, whatever the answer is
  pub leave_keeps : {X : Type 0} (part : S → X) (p : Phase) (s : S) → part (left s).state ≡ part s → part (leave_by left p s).state ≡ part s
  leave_keeps part Idle s kept = refl
  leave_keeps part Waiting s kept = refl
  leave_keeps part (Inside n) s kept = kept

  pub leave_ok : (phase : S → Phase) (p : Phase) (s : S) (n : ℕ) → phase (left s).state ≡ Idle → (leave_by left p s).answer ≡ Ok n → phase (leave_by left p s).state ≡ Idle
  leave_ok phase Idle s n rests h = let bad : ⊥ = cc in absurd bad
  leave_ok phase Waiting s n rests h = let bad : ⊥ = cc in absurd bad
  leave_ok phase (Inside m) s n rests h = rests

  pub leave_inside : (p : Phase) (s : S) (n : ℕ) → ((leave_by left p s).answer ≡ Ok n) ↔ (p ≡ Inside n)
  leave_inside Idle s n = (λ h. let bad : ⊥ = cc in absurd bad, λ e. let bad : ⊥ = cc in absurd bad)
  leave_inside Waiting s n = (λ h. let bad : ⊥ = cc in absurd bad, λ e. let bad : ⊥ = cc in absurd bad)
  leave_inside (Inside m) s n = (λ h. let k : m ≡ n = cc in ap Inside k, λ h. let k : m ≡ n = cc in ap (λ x. Ok x) k)

  pub leave_err : (p : Phase) (s : S) (f : LeaveFault) → (leave_by left p s).answer ≡ Err f → ((leave_by left p s).state ≡ s) × ((leave_by left p s).letters ≡ [])
  leave_err Idle s f h = (refl, refl)
  leave_err Waiting s f h = (refl, refl)
  leave_err (Inside m) s f h = let bad : ⊥ = cc in absurd bad

module _ {S M : Type 0} (cancelled : S → Done S (Unit {0}) M) where
  -- what cancelling keeps is kept, whatever the answer is
  pub cancel_keeps : {X : Type 0} (part : S → X) (p : Phase) (s : S) → part (cancelled s).state ≡ part s → part (cancel_by cancelled p s).state ≡ part s
  cancel_keeps part Idle s kept = refl
  cancel_keeps part Waiting s kept = kept
  cancel_keeps part (Inside n) s kept = refl

  pub cancel_ok : (phase : S → Phase) (p : Phase) (s : S) → phase (cancelled s).state ≡ Idle → (cancel_by cancelled p s).answer ≡ Ok tt → (p ≡ Waiting) × (phase (cancel_by cancelled p s).state ≡ Idle)
  cancel_ok phase Idle s rests h = let bad : ⊥ = cc in absurd bad
  cancel_ok phase Waiting s rests h = (refl, rests)
  cancel_ok phase (Inside n) s rests h = let bad : ⊥ = cc in absurd bad

  pub cancel_err : (p : Phase) (s : S) (f : CancelFault) → (cancel_by cancelled p s).answer ≡ Err f → ((cancel_by cancelled p s).state ≡ s) × ((cancel_by cancelled p s).letters ≡ [])
  cancel_err Idle s f h = (refl, refl)
  cancel_err Waiting s f h = let bad : ⊥ = cc in absurd bad
  cancel_err (Inside n) s f h = (refl, refl)

  pub cancel_not_waiting : (p : Phase) (s : S) → ((cancel_by cancelled p s).answer ≡ Err cancel.NotWaiting) ↔ (p ≢ Waiting)
  cancel_not_waiting Idle s = (λ _ e. let bad : ⊥ = cc in bad, λ _. refl)
  cancel_not_waiting Waiting s = (λ h. let bad : ⊥ = cc in absurd bad, λ ne. absurd (ne refl))
  cancel_not_waiting (Inside n) s = (λ _ e. let bad : ⊥ = cc in bad, λ _. refl)
