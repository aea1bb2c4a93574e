-- The fault that a run returns, by how its workers ended.
use Rattle.std.proofs.Common.{◌≡◌, subst, sym}
use Rattle.mx_jobs.specs.declared.faults.RunFault.{RunFault}
use Rattle.mx_jobs.specs.declared.faults.RunFault.TheVariants as fault
use Rattle.mx_jobs.specs.declared.tries.JobFault.{JobFault}
use Rattle.mx_jobs.specs.declared.worker.Ended.TheVariants.{Broken}
use Rattle.mx_jobs.specs.Faults.{IfOfEnds}

pub same_why : (why other : JobFault) → Broken why ≡ Broken other → why ≡ other
same_why why other e = cc

-- a fault that is told before any thread ends
pub before_ends : (told : RunFault) (P : Type 0) → IfOfEnds told ⊥ → IfOfEnds told P
before_ends fault.NotAJobEach P so = tt
before_ends fault.Memory P so = tt
before_ends fault.NoThread P so = tt
before_ends (fault.Job why) P so = absurd so
before_ends fault.GateShut P so = absurd so
before_ends fault.TurnsSpent P so = absurd so

-- what is so is so of each fault that is told of how workers ended
pub told_of : (told : RunFault) (P : Type 0) → P → IfOfEnds told P
told_of fault.NotAJobEach P so = tt
told_of fault.Memory P so = tt
told_of fault.NoThread P so = tt
told_of (fault.Job why) P so = so
told_of fault.GateShut P so = so
told_of fault.TurnsSpent P so = so

pub memory_told : (told : RunFault) (P : Type 0) → told ≡ fault.Memory → IfOfEnds told P
memory_told told P is = subst (λ f. IfOfEnds f P) (sym is) tt
