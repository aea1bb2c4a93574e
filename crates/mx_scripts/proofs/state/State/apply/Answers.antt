use Rattle.std.proofs.Common.{rules, subst, sym}
use Rattle.mx_scripts.specs.States.{IsAllowed, RunState}
use Rattle.mx_scripts.specs.declared.state.SessionEvent.TheVariants.{IsLost}
use Rattle.mx_scripts.proofs.ListedLemmas.{listed_lost, under_way_below}
use Rattle.mx_scripts.proofs.state.State.apply.Goals as goal

pub advance-requires : goal.advance-requires
advance-requires g c = (search rules, (rw c.in-Happens.is at c.requires).0)

pub invariant_of-self : goal.invariant_of-self
invariant_of-self g c =
    let i = c.self.inside in
    let number = c.in-IsLost.number in
    let allowed = subst (λ (s : RunState g.row.C.Denot g.row.C-Msg.Denot). IsAllowed s (IsLost number)) (sym c.self.view_is) (rw c.in-IsLost.is at c.requires) in
    rw (c.lose.ensures, c.remove.ensures) (listed_lost i.cluster.sent i.in_flight i.under_way number c.self.invariant (under_way_below i.in_flight.gone number allowed))
