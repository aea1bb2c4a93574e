use Rattle.std.specs.Prelude.{◌≡◌, ◌∷◌, [], ℕ, List, slice_get, Some}
use Rattle.mx_jobs.specs.declared.threads.Worker.{Worker}
use Rattle.mx_jobs.specs.declared.worker.RunOptions.{RunOptions}

-- `IsSo` holds for each item with its place
abbrev pub AreEach : {X : Type 0} → (ℕ → X → Type 0) → List X → Type 0
AreEach {X} IsSo xs = (k : ℕ) (x : X) → slice_get xs k ≡ Some x → IsSo k x

-- each of these jobs may be asked for a section
abbrev pub AreReady : {J : Type 0} → (J → Type 0) → List J → Type 0
AreReady {J} IsReady jobs = (k : ℕ) (job : J) → slice_get jobs k ≡ Some job → IsReady job

-- the workers with these stations, jobs and fates, in order
abbrev pub workers : {S J F : Type 0} → RunOptions → List S → List J → List F → List (Worker S J F)
workers options [] js fs = []
workers options (s ∷ ss) [] fs = []
workers options (s ∷ ss) (j ∷ js) [] = []
workers options (s ∷ ss) (j ∷ js) (f ∷ fs) =
    record { station = s; job = j; fates = f; options = options } ∷ workers options ss js fs
