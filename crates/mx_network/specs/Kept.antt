-- What holds for every cluster. All promises on its trace and its journals follow from this.
use Rattle.mx_nodelaws.specs.World.{World}
use Rattle.mx_nodelaws.specs.Core.{Core}
use Rattle.mx_member.specs.Running.{IsRun, owners}
use Rattle.mx_trace.specs.Trace.{sections, IsSerial}
use Rattle.mx_network.specs.Step.{AreUnsettled, ClusterState}

-- the nodes and parcels are those of a run with the sections of the trace; these sections follow
-- one another; and no read was refused because its own section is settled
pub record IsKept {H S M : Type 0} (core : Core H S M) (Good : World S M → Type 0)
    (g : ClusterState S M) : Type 0 where
  pub run : IsRun core Good (sections g.trace) (owners (sections g.trace) g.members) g.sent
  pub serial : IsSerial g.trace
  pub unsettled : AreUnsettled g.trace
