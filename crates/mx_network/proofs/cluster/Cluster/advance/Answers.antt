use Rattle.mx_network.proofs.Refusals.{no_node, no_parcel}
use Rattle.mx_network.proofs.Seen.{seen_kept}
use Rattle.mx_network.proofs.cluster.Cluster.advance.Goals as goal

pub returns-clause-no_node : goal.returns-clause-no_node
returns-clause-no_node g c =
    no_node g.C.Exclusion.core g.C.Exclusion.Good c.args.self.now c.apply.new.self c.args.event c.apply.result
    (seen_kept _ _ c.self.view_is c.self.invariant.1)
    c.apply.ensures.ok c.apply.ensures.fault

pub returns-clause-no_parcel : goal.returns-clause-no_parcel
returns-clause-no_parcel g c =
    no_parcel g.C.Exclusion.core g.C.Exclusion.Good c.args.self.now c.apply.new.self c.args.event c.apply.result
    (seen_kept _ _ c.self.view_is c.self.invariant.1)
    c.apply.ensures.ok c.apply.ensures.fault

pub returns-clause-ok : goal.returns-clause-ok
returns-clause-ok g c = c.apply.ensures.ok

pub returns-clause-fault : goal.returns-clause-fault
returns-clause-fault g c = c.apply.ensures.fault

pub returns-clause-err : goal.returns-clause-err
returns-clause-err g c = c.apply.ensures.err
