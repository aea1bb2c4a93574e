use Rattle.std.proofs.Common.{◌∙◌, ap, arith, length}
use Rattle.std.proofs.lemmas.Grind.{common_steps}
use Rattle.mx_network.specs.Step.{ClusterState}
use Rattle.mx_shown_scripts.proofs.shown_script.Showing.add_closing.Goals as goal

pub cluster-requires : goal.cluster-requires
cluster-requires g c = (search c.requires-raw, grind (arith, common_steps))

pub add_closing_with-requires : goal.add_closing_with-requires
add_closing_with-requires g c =
    (grind (arith, common_steps), ap (λ (x : ClusterState g.row.C.Denot g.row.C-Msg.Denot). length x.members) c.cluster.ensures ∙ c.requires)
