-- What is known of a cluster's fields is known of the cluster that a contract sees.
use Rattle.std.proofs.Common.{◌≡◌, Result, subst}
use Rattle.mx_nodelaws.specs.World.{World}
use Rattle.mx_nodelaws.specs.Core.{Core}
use Rattle.mx_events.specs.declared.event.Event.{Event}
use Rattle.mx_network.specs.declared.faults.StepFault.{StepFault}
use Rattle.mx_network.specs.Kept.{IsKept}
use Rattle.mx_network.specs.Step.{ClusterState, IsStep}

pub seen_step : {H S M : Type 0} (core : Core H S M) (fields seen new : ClusterState S M) (e : Event) (r : Result (Unit {0}) StepFault) → fields ≡ seen → IsStep core e fields new r → IsStep core e seen new r
seen_step core fields seen new e r is h = subst (λ g. IsStep core e g new r) is h

pub seen_kept : {H S M : Type 0} {core : Core H S M} {Good : World S M → Type 0} (fields seen : ClusterState S M) → fields ≡ seen → IsKept core Good fields → IsKept core Good seen
seen_kept {core} {Good} fields seen is kept = subst (λ g. IsKept core Good g) is kept
