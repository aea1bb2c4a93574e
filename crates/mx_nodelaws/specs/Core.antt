-- The step table of an exclusion algorithm, and what it promises about the phase of a node.
use Rattle.std.specs.Prelude.{ℕ, ◌<◌, ◌≤◌, ◌≡◌, ◌≢◌, ◌↔◌, Bool, true, false, [], Result, Ok, Err}
use Rattle.mx_stamps.specs.declared.limits.TheConstants.{MAX_SECTIONS}
use Rattle.mx_stamps.specs.declared.stamp.Stamp.{Stamp}
use Rattle.mx_nodelaws.specs.declared.phase.Phase.{Phase}
use Rattle.mx_nodelaws.specs.declared.phase.Phase.TheVariants.{Idle, Waiting, Inside}
use Rattle.mx_nodelaws.specs.declared.faults.AskFault.{AskFault}
use Rattle.mx_nodelaws.specs.declared.faults.AskFault.TheVariants.{NotIdle}
use Rattle.mx_nodelaws.specs.declared.faults.CancelFault.{CancelFault}
use Rattle.mx_nodelaws.specs.declared.faults.CancelFault.TheVariants as cancel
use Rattle.mx_nodelaws.specs.declared.faults.EnterFault.{EnterFault}
use Rattle.mx_nodelaws.specs.declared.faults.EnterFault.TheVariants.{NotWaiting, NotGranted}
use Rattle.mx_nodelaws.specs.declared.faults.LeaveFault.{LeaveFault}
use Rattle.mx_nodelaws.specs.World.{Done, Quiet}

-- the step table of an algorithm: H are its shapes, S the states of a node, and M its letters
pub record Core (H S M : Type 0) : Type 0 where
  pub count : H → ℕ
  -- the state of a node that has just been started, from the shape, the node, the origin (the
  -- algorithm may count its stamps and grants, or its hops, on from it) and the limit (the greatest
  -- section number)
  pub start : H → ℕ → ℕ → ℕ → S
  pub phase : S → Phase
  -- the number of the last section that the node entered, or 0 before the first
  pub mine : S → ℕ
  pub limit : S → ℕ
  pub can_enter : S → Bool
  pub ask : S → Done S (Result Stamp AskFault) M
  -- the step of a node when a letter is delivered, from the sender, the letter and the state
  pub deliver : ℕ → M → S → Done S (Unit {0}) M
  pub enter : S → Quiet S (Result ℕ EnterFault)
  pub leave : S → Done S (Result ℕ LeaveFault) M
  pub cancel : S → Done S (Result (Unit {0}) CancelFault) M
  pub tick : S → Done S (Unit {0}) M

-- a node in this state is inside a section
abbrev pub IsInside : {H S M : Type 0} → Core H S M → S → Type 0
IsInside core s = (n : ℕ) × (core.phase s ≡ Inside n)

-- if the phase is Inside, the section's number is from 1 to 1,000,000
abbrev pub BearsNumber : Phase → Type 0
BearsNumber Idle = Unit {0}
BearsNumber Waiting = Unit {0}
BearsNumber (Inside n) = (0 < n) × (n ≤ MAX_SECTIONS)

-- what an algorithm promises, for every state: how each step changes the phase, `mine` and the
-- limit
pub record KeepsPhases {H S M : Type 0} (core : Core H S M) : Type 0 where
  -- a node that has just been started is idle, has entered no section, and has the given limit
  pub started_idle : (shape : H) (i origin limit : ℕ) →
      core.phase (core.start shape i origin limit) ≡ Idle
  pub started_mine : (shape : H) (i origin limit : ℕ) →
      core.mine (core.start shape i origin limit) ≡ 0
  pub started_limit : (shape : H) (i origin limit : ℕ) →
      core.limit (core.start shape i origin limit) ≡ limit
  -- an accepted ask goes from Idle to Waiting, a refused one changes nothing
  pub ask_ok : (s : S) (stamp : Stamp) → (core.ask s).answer ≡ Ok stamp →
      (core.phase s ≡ Idle) × (core.phase (core.ask s).state ≡ Waiting)
  pub ask_err : (s : S) (e : AskFault) → (core.ask s).answer ≡ Err e →
      ((core.ask s).state ≡ s) × ((core.ask s).letters ≡ [])
  pub ask_not_idle : (s : S) → ((core.ask s).answer ≡ Err NotIdle) ↔ (core.phase s ≢ Idle)
  pub ask_mine : (s : S) → core.mine (core.ask s).state ≡ core.mine s
  pub ask_limit : (s : S) → core.limit (core.ask s).state ≡ core.limit s
  -- a delivery changes neither the phase nor `mine` nor the limit
  pub deliver_phase : (from : ℕ) (m : M) (s : S) →
      core.phase (core.deliver from m s).state ≡ core.phase s
  pub deliver_mine : (from : ℕ) (m : M) (s : S) →
      core.mine (core.deliver from m s).state ≡ core.mine s
  pub deliver_limit : (from : ℕ) (m : M) (s : S) →
      core.limit (core.deliver from m s).state ≡ core.limit s
  -- only a waiting node can enter
  pub can_enter_waiting : (s : S) → core.can_enter s ≡ true → core.phase s ≡ Waiting
  -- an accepted enter goes from Waiting to Inside, a refused one changes nothing
  pub enter_ok : (s : S) (n : ℕ) → (core.enter s).answer ≡ Ok n → (core.can_enter s ≡ true)
      × (core.phase (core.enter s).state ≡ Inside n) × (core.mine (core.enter s).state ≡ n)
  pub enter_err : (s : S) (e : EnterFault) → (core.enter s).answer ≡ Err e →
      (core.enter s).state ≡ s
  pub enter_not_waiting : (s : S) →
      ((core.enter s).answer ≡ Err NotWaiting) ↔ (core.phase s ≢ Waiting)
  pub enter_not_granted : (s : S) → ((core.enter s).answer ≡ Err NotGranted)
      ↔ ((core.phase s ≡ Waiting) × (core.can_enter s ≡ false))
  pub enter_limit : (s : S) → core.limit (core.enter s).state ≡ core.limit s
  -- a leave is accepted exactly if the node is inside, and the result is the section's number
  pub leave_inside : (s : S) (n : ℕ) → ((core.leave s).answer ≡ Ok n) ↔ (core.phase s ≡ Inside n)
  pub leave_ok : (s : S) (n : ℕ) → (core.leave s).answer ≡ Ok n →
      core.phase (core.leave s).state ≡ Idle
  pub leave_err : (s : S) (e : LeaveFault) → (core.leave s).answer ≡ Err e →
      ((core.leave s).state ≡ s) × ((core.leave s).letters ≡ [])
  pub leave_mine : (s : S) → core.mine (core.leave s).state ≡ core.mine s
  pub leave_limit : (s : S) → core.limit (core.leave s).state ≡ core.limit s
  -- an accepted cancel goes from Waiting to Idle, a refused one changes nothing
  pub cancel_ok : (s : S) → (core.cancel s).answer ≡ Ok tt →
      (core.phase s ≡ Waiting) × (core.phase (core.cancel s).state ≡ Idle)
  pub cancel_err : (s : S) (e : CancelFault) → (core.cancel s).answer ≡ Err e →
      ((core.cancel s).state ≡ s) × ((core.cancel s).letters ≡ [])
  pub cancel_not_waiting : (s : S) →
      ((core.cancel s).answer ≡ Err cancel.NotWaiting) ↔ (core.phase s ≢ Waiting)
  pub cancel_mine : (s : S) → core.mine (core.cancel s).state ≡ core.mine s
  pub cancel_limit : (s : S) → core.limit (core.cancel s).state ≡ core.limit s
  -- a tick changes neither the phase nor `mine` nor the limit
  pub tick_phase : (s : S) → core.phase (core.tick s).state ≡ core.phase s
  pub tick_mine : (s : S) → core.mine (core.tick s).state ≡ core.mine s
  pub tick_limit : (s : S) → core.limit (core.tick s).state ≡ core.limit s
