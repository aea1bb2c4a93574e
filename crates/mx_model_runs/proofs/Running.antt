-- A run that was computed is a run.
use Rattle.std.proofs.Common.{◌≡◌, List, [], ◌∷◌, Result, Ok, Err, refl, sym}
use Rattle.mx_nodelaws.specs.Core.{Core}
use Rattle.mx_events.specs.declared.event.Event.{Event}
use Rattle.mx_network.specs.declared.faults.StepFault.{StepFault}
use Rattle.mx_network.specs.Step.{ClusterState, RunsTo, step_of}
use Rattle.mx_network.proofs.EventParts.{err_no_ok, same_Ok}

module _ {H S M : Type 0} (core : Core H S M) where
  -- the cluster after these events
  abbrev pub after : Result (ClusterState S M) StepFault → List Event → Result (ClusterState S M) StepFault
  after (Err f) es = Err f
  after (Ok g) [] = Ok g
  after (Ok g) (e ∷ es) = after (step_of core g e) es

  -- the cluster there is, or another one
  abbrev pub found : ClusterState S M → Result (ClusterState S M) StepFault → ClusterState S M
  found g (Ok h) = h
  found g (Err f) = g

  pub run_of : (g : ClusterState S M) (es : List Event) (new : ClusterState S M) → after (Ok g) es ≡ Ok new → RunsTo core g es new
  run_of g [] new h = sym (same_Ok g new h)
  run_of g (e ∷ es) new h =
      elim (step_of core g e) as (λ r. step_of core g e ≡ r → after r es ≡ Ok new → RunsTo core g (e ∷ es) new) [
        | Ok mid ↦ λ was rest. (mid, was, run_of mid es new rest)
        | Err f ↦ λ was rest. absurd (err_no_ok f new rest)
      ] refl h
