use Rattle.std.proofs.Common.{Ok, refl, rules}
use Rattle.mx_member.specs.declared.acts.Act.TheVariants.{Want}
use Rattle.mx_stations.proofs.Within.{serves_trying}
use Rattle.mx_stations.proofs.worker.want_next.Goals as goal

pub returns : goal.returns
returns g c = λ register most.
    serves_trying g.C.Exclusion.core g.met.C.Exclusion.phases register most {A = Unit {0}} {F = Unit {0}} (Want c.node_after-next.result) (Ok tt) _ _ c.node_after-next.ensures tt refl c.want.ensures tt

pub want-requires : goal.want-requires
want-requires g c = (search rules, c.node_after-next.ensures)
