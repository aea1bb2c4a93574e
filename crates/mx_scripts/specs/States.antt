-- A cluster with its fates (which parcels are under way, and which links are cut), and what happens
-- to both.
use Rattle.std.specs.Prelude.{ℕ, ◌≡◌, ◌≤◌, ◌<◌, ◌⊎◌, ⊤, false, IsTrue, Ok, Err, Option, Some, length}
use Rattle.mx_stamps.specs.declared.limits.TheConstants.{MAX_EVENTS}
use Rattle.mx_nodelaws.specs.Core.{Core}
use Rattle.mx_lines.specs.declared.errors.LineFault.{LineFault}
use Rattle.mx_lines.specs.declared.errors.LineFault.TheVariants.{LinkCut, TooMany}
use Rattle.mx_network.specs.Step.{ClusterState, step_of}
use Rattle.mx_network.specs.declared.faults.StepFault.{StepFault}
use Rattle.mx_events.specs.Arguments.{IsWithin}
use Rattle.mx_scripts.specs.Fates.{Fates, at_first, can_pass, is_under_way, lost, noted, relinked}
use Rattle.mx_scripts.specs.Failures.{failure_of_step}
use Rattle.mx_scripts.specs.declared.line_failure.LineFailure.{LineFailure}
use Rattle.mx_scripts.specs.declared.line_failure.LineFailure.TheVariants as failure
use Rattle.mx_scripts.specs.declared.state.SessionEvent.{SessionEvent}
use Rattle.mx_scripts.specs.declared.state.SessionEvent.TheVariants.{Happens, IsLost, LinksChange}

pub record RunState (S M : Type 0) : Type 0 where
  pub cluster : ClusterState S M
  pub fates : Fates

-- a cluster with no parcel sent yet, and no link cut
abbrev pub before_any : {S M : Type 0} → ClusterState S M → RunState S M
before_any start = record { cluster = start; fates = at_first }

-- the event is allowed: only a parcel that is under way is lost; an event of the cluster delivers
-- no parcel over a cut link, and the cluster has had fewer than the greatest number of events
abbrev pub IsAllowed : {S M : Type 0} → RunState S M → SessionEvent → Type 0
IsAllowed s (Happens e) =
    IsTrue (can_pass s.fates s.cluster.sent e)
    × (length s.cluster.trace < MAX_EVENTS)
IsAllowed s (IsLost k) = IsTrue (is_under_way s.fates k)
IsAllowed s (LinksChange change) = ⊤

-- the next event, if it is one of the cluster, is allowed
abbrev pub Admits : {S M : Type 0} → RunState S M → Option SessionEvent → Type 0
Admits s (Some (Happens e)) = IsAllowed s (Happens e)
Admits s _ = ⊤

-- why an event of the cluster is not allowed: the cluster has had the greatest number of events, or
-- the event delivers a parcel over a cut link
abbrev pub Bars : {S M : Type 0} → RunState S M → Option SessionEvent → LineFault → Type 0
Bars s (Some (Happens e)) fault =
    ((fault ≡ TooMany) × (MAX_EVENTS ≤ length s.cluster.trace))
    ⊎ ((fault ≡ LinkCut) × (can_pass s.fates s.cluster.sent e ≡ false))
Bars s _ fault = ⊥

-- an event of the cluster names nodes below `nodes` and registers below `registers`
abbrev pub IsEventWithin : ℕ → ℕ → SessionEvent → Type 0
IsEventWithin nodes registers (Happens e) = IsWithin nodes registers e
IsEventWithin nodes registers (IsLost k) = ⊤
IsEventWithin nodes registers (LinksChange change) = ⊤

module _ {H S M : Type 0} (core : Core H S M) where
  -- the event happens, and leads from one state to another; only a parcel that is under way is
  -- lost, and no parcel is delivered over a cut link
  abbrev pub Brings : RunState S M → SessionEvent → RunState S M → Type 0
  Brings old (Happens e) new =
      (step_of core old.cluster e ≡ Ok new.cluster)
      × (new.fates ≡ noted new.cluster.sent e old.fates)
      × IsTrue (can_pass old.fates old.cluster.sent e)
  Brings old (IsLost k) new =
      (new.cluster ≡ old.cluster) × (new.fates ≡ lost k old.fates)
      × IsTrue (is_under_way old.fates k)
  Brings old (LinksChange change) new =
      (new.cluster ≡ old.cluster) × (new.fates ≡ relinked change old.fates)

  -- the event names a node or a parcel that the cluster does not have, and nothing changes
  abbrev pub IsRefusedBy : RunState S M → SessionEvent → RunState S M → LineFailure → Type 0
  IsRefusedBy old (Happens e) new why =
      (new ≡ old) × (fault : StepFault) × (step_of core old.cluster e ≡ Err fault)
      × (why ≡ failure_of_step fault)
  IsRefusedBy old (IsLost k) new why = ⊥
  IsRefusedBy old (LinksChange change) new why = ⊥

  -- why the event does not happen: memory ran out, or the cluster refuses it
  abbrev pub IsNotApplied : RunState S M → SessionEvent → RunState S M → LineFailure → Type 0
  IsNotApplied old e new why = (why ≡ failure.Memory) ⊎ IsRefusedBy old e new why
