use Rattle.std.proofs.Common.{rules, subst, sym}
use Rattle.mx_events.specs.declared.event.Event.{Event}
use Rattle.mx_network.specs.Step.{IsStep}
use Rattle.mx_network.proofs.EventParts.{no_delivery}
use Rattle.mx_network.proofs.cluster.Cluster.apply.Goals as goal

pub act-requires : goal.act-requires
act-requires g c = (search rules, no_delivery c.args.event c.in_default.not-Deliver)

pub returns-in-Deliver : goal.returns-in-Deliver
returns-in-Deliver g c =
    subst (λ (e : Event). IsStep g.C.Exclusion.core e c.args.self.now c.deliver.new.self c.deliver.result) (sym c.in-Deliver.is) c.deliver.ensures
