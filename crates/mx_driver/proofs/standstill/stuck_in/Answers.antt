use Rattle.std.proofs.Common.{◌≡◌, ◌∙◌, Bool, false, IfOk, List, [], if◌then◌else◌, subst, sym}
use Rattle.mx_member.specs.Member.{MemberState}
use Rattle.mx_driver.specs.Standstill.{has_undelivered, stuck_nodes}
use Rattle.mx_driver.proofs.standstill.stuck_in.Goals as goal

pub returns : goal.returns
returns g c =
    let core = g.C.Exclusion.core in
    let knows = g.C.Knowledge.knows in
    let cluster = c.args.cluster.now in
    let r = c.stuck_nodes.result in
    let none : has_undelivered cluster ≡ false = sym c.in_ok-has_undelivered.ensures ∙ c.if-branch.false in
    subst (λ (b : Bool). IfOk r (λ waiters. waiters.items ≡ (if b then [] else stuck_nodes core knows cluster.members))) (sym none)
    (subst (λ (members : List (MemberState g.row.C.Denot)). IfOk r (λ waiters. waiters.items ≡ stuck_nodes core knows members)) c.members.ensures c.stuck_nodes.ensures)
