use Rattle.std.proofs.Common.{◌∙◌, Err, ap, subst}
use Rattle.mx_network.specs.Step.{IsFaultOf, step_of}
use Rattle.mx_network.specs.declared.faults.StepFault.{StepFault}
use Rattle.mx_driver.proofs.RunLemmas.{has_nodes, stops_without}
use Rattle.mx_driver.proofs.driver.apply.Goals as goal

pub unreachable-requires : goal.unreachable-requires
unreachable-requires g c = has_nodes c.args.cluster.now c.args.event.now c.requires.named.0 c.requires.named.1 (c.advance.ensures.no_node.0 (c.in-Err-NoNode.is ∙ ap Err c.in-Err-NoNode.field-0-is))

pub returns-in-Err-NoParcel-clause-err : goal.returns-in-Err-NoParcel-clause-err
returns-in-Err-NoParcel-clause-err g c =
    let wanted = step_of g.C.Exclusion.core c.args.cluster.now c.args.event.now in
    stops_without c.args.index wanted (subst (λ (f : StepFault). IsFaultOf wanted f) c.in-Err-NoParcel.field-0-is c.in-Err-NoParcel.ensures.fault)
