use Rattle.std.proofs.Common.{◌∙◌, ap, rules}
use Rattle.mx_network.specs.Step.{ClusterState}
use Rattle.mx_play.proofs.session.trace_of.Goals as goal

pub cluster-requires : goal.cluster-requires
cluster-requires g c = (search rules, search rules)

pub trace-requires : goal.trace-requires
trace-requires g c = search rules

pub returns : goal.returns
returns g c = c.trace.ensures.value ∙ ap (λ (x : ClusterState g.row.C.Denot g.row.C-Msg.Denot). x.trace) c.cluster.ensures
