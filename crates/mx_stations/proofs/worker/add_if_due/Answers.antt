use Rattle.std.proofs.Common.{refl}
use Rattle.mx_member.specs.declared.acts.Act.TheVariants.{Read, Write}
use Rattle.mx_stations.proofs.Within.{serves_on, serves_trying}
use Rattle.mx_stations.proofs.worker.add_if_due.Goals as goal

pub returns-in-Ok : goal.returns-in-Ok
returns-in-Ok g c = λ most.
    let core = g.C.Exclusion.core in let phases = g.met.C.Exclusion.phases in let register = c.args.register in
    serves_on core phases register most _ _ _ (serves_trying core phases register most (Read register) c.read.result _ _ refl tt refl c.read.ensures.done c.read.ensures.refused)
    (serves_trying core phases register most (Write register _) c.write.result _ _ refl tt refl c.write.ensures.done c.write.ensures.refused)

pub returns-in-Err-Gap : goal.returns-in-Err-Gap
returns-in-Err-Gap g c = λ most.
    let core = g.C.Exclusion.core in let phases = g.met.C.Exclusion.phases in let register = c.args.register in
    serves_on core phases register most _ _ _ (serves_trying core phases register most (Read register) c.read.result _ _ refl tt refl c.read.ensures.done c.read.ensures.refused)
    (c.want_next.ensures register most)

pub returns-in-Err-NotInside : goal.returns-in-Err-NotInside
returns-in-Err-NotInside g c = λ most. serves_trying g.C.Exclusion.core g.met.C.Exclusion.phases c.args.register most (Read c.args.register) c.read.result _ _ refl tt refl c.read.ensures.done c.read.ensures.refused
