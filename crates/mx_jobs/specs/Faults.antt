use Rattle.std.specs.Prelude.{◌≡◌, ◌⊎◌, List, Option, None, Some}
use Rattle.mx_stamps.specs.Lists.{IsIn}
use Rattle.mx_jobs.specs.declared.faults.RunFault.{RunFault}
use Rattle.mx_jobs.specs.declared.faults.RunFault.TheVariants as fault
use Rattle.mx_jobs.specs.declared.tries.JobFault.{JobFault}
use Rattle.mx_jobs.specs.declared.worker.Ended.{Ended}
use Rattle.mx_jobs.specs.declared.worker.Ended.TheVariants.{Broken, Done, GateShut, NotYet, Stopped}

-- the worker ended in this way because its job, or that of another worker, cannot go on
abbrev pub IsBroken : Ended → Type 0
IsBroken (Broken why) = Unit {0}
IsBroken (Stopped why) = Unit {0}
IsBroken _ = ⊥

abbrev pub NoneBroken : List Ended → Type 0
NoneBroken ends = (e : Ended) → IsIn e ends → IsBroken e → ⊥

-- no worker ended because its own job cannot go on
abbrev pub NoneOwn : List Ended → Type 0
NoneOwn ends = (why : JobFault) → IsIn (Broken why) ends → ⊥

-- Which fault is reported if workers ended in these ways: none only if all are done; that of a job
-- if a worker ended because its own job cannot go on, for this reason, or if all workers that ended
-- for a job did so for the job of another; `TurnsSpent` only if a worker made all its turns, no job
-- stopped the run, and the gate was shut for no worker.
abbrev pub Tells : Option RunFault → List Ended → Type 0
Tells None ends = (e : Ended) → IsIn e ends → e ≡ Done
Tells (Some (fault.Job why)) ends =
    IsIn (Broken why) ends ⊎ (IsIn (Stopped why) ends × NoneOwn ends)
Tells (Some fault.GateShut) ends = IsIn GateShut ends × NoneBroken ends
Tells (Some fault.TurnsSpent) ends =
    IsIn NotYet ends × NoneBroken ends × (IsIn GateShut ends → ⊥)
Tells (Some _) ends = ⊥

abbrev pub IfOfEnds : RunFault → Type 0 → Type 0
IfOfEnds fault.NotAJobEach P = Unit {0}
IfOfEnds fault.Memory P = Unit {0}
IfOfEnds fault.NoThread P = Unit {0}
IfOfEnds _ P = P
