use Rattle.std.proofs.Common.{◌≡◌, ◌∙◌, Bool, List, IfOk, [], ap, false, subst, sym}
use Rattle.std.specs.Prelude.{if◌then◌else◌}
use Rattle.mx_format.specs.StuckTexts.{WaiterState}
use Rattle.mx_network.specs.Step.{ClusterState}
use Rattle.mx_driver.specs.Standstill.{stuck_nodes}
use Rattle.mx_scripts.specs.Standstill.{has_under_way, stuck_in}
use Rattle.mx_scripts.proofs.state.State.stuck.Goals as goal

pub returns : goal.returns
returns g c =
    let s = c.args.self.now in
    let waiters = stuck_nodes g.C.Exclusion.core g.C.Knowledge.knows in
    let none : has_under_way s ≡ false = sym c.has_under_way.ensures ∙ c.if-has_under_way.false in
    let is : waiters c.members.result.now ≡ stuck_in g.C.Exclusion.core g.C.Knowledge.knows s =
    ap waiters (c.members.ensures ∙ ap (λ (x : ClusterState g.row.C.Denot g.row.C-Msg.Denot). x.members) c.cluster.ensures)
    ∙ ap (λ (b : Bool). if b then [] else waiters s.cluster.members) (sym none) in
    subst (λ (l : List WaiterState). IfOk c.stuck_nodes.result (λ found. found.items ≡ l)) is c.stuck_nodes.ensures
