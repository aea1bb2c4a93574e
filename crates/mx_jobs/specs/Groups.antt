use Rattle.std.specs.Prelude.{◌≡◌, ℕ, List}
use Rattle.mx_jobs.specs.declared.thread_group.Place.{Place}
use Rattle.mx_jobs.specs.declared.thread_group.Place.TheVariants.{Here, Thread}

-- the works of a group that have begun, in order, and how many may
pub record Group (W : Type 0) : Type 0 where
  pub room : ℕ
  pub works : List W

-- a thread has promised to do this work, or the work was done, and left this
abbrev pub IsOf : {T W : Type 0} → (W → T → Type 0) → W → Place T W → Type 0
IsOf Leads work (Thread handle) = handle.promise.work.value ≡ work
IsOf Leads work (Here left) = Leads work left
