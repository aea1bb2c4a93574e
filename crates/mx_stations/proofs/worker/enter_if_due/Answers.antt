use Rattle.std.proofs.Common.{refl}
use Rattle.mx_member.specs.declared.acts.Act.TheVariants.{Enter}
use Rattle.mx_stations.proofs.Within.{serves_none, serves_trying}
use Rattle.mx_stations.proofs.worker.enter_if_due.Goals as goal

pub returns-then-can_enter : goal.returns-then-can_enter
returns-then-can_enter g c = λ register most. serves_trying g.C.Exclusion.core g.met.C.Exclusion.phases register most Enter c.enter.result _ _ tt tt refl c.enter.ensures.done c.enter.ensures.refused

pub returns-else-can_enter : goal.returns-else-can_enter
returns-else-can_enter g c = λ register most. serves_none g.C.Exclusion.core g.met.C.Exclusion.phases register most _ _ refl
