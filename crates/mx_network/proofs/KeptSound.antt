-- What every cluster keeps is sound.
use Rattle.mx_nodelaws.specs.World.{World}
use Rattle.mx_nodelaws.specs.Core.{Core}
use Rattle.mx_member.specs.World.{IsSound}
use Rattle.mx_member.proofs.Owners.{owners_sound}
use Rattle.mx_network.specs.Kept.{IsKept}
use Rattle.mx_trace.specs.Trace.{sections}
use Rattle.mx_network.specs.Step.{ClusterState}

pub kept_sound : {H S M : Type 0} (core : Core H S M) (Good : World S M → Type 0) (g : ClusterState S M) → IsKept core Good g → IsSound core Good (sections g.trace) g.members g.sent
kept_sound core Good g kept = owners_sound core Good (sections g.trace) g.members g.sent kept.run
