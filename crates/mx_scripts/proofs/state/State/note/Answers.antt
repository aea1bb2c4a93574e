use Rattle.std.proofs.Common.{List, subst, sym}
use Rattle.mx_scripts.specs.Fates.{Fates, noted}
use Rattle.mx_scripts.specs.UnderWay.{IsListed}
use Rattle.mx_scripts.specs.declared.under_way.ListedParcel.{ListedParcel}
use Rattle.mx_scripts.proofs.ListedLemmas.{listed_noted}
use Rattle.mx_scripts.proofs.state.State.note.Goals as goal

pub invariant_of-self-in_err-note : goal.invariant_of-self-in_err-note
invariant_of-self-in_err-note g c =
    let i = c.self.inside in
    rw c.in_err-note.ensures.err (c.grow.ensures.kept i.in_flight.gone c.self.invariant)

pub invariant_of-self-2 : goal.invariant_of-self-2
invariant_of-self-2 g c =
    let i = c.self.inside in
    let ps = c.grow.new.self in
    subst (λ (f : Fates). IsListed i.cluster.sent f.gone c.take_out.new.self) (sym c.in_ok-note.ensures.ok)
    (subst (λ (l : List ListedParcel). IsListed i.cluster.sent (noted i.cluster.sent c.args.event.now i.in_flight).gone l) (sym c.take_out.ensures)
    (listed_noted i.cluster.sent i.in_flight ps c.args.event.now (c.grow.ensures.kept i.in_flight.gone c.self.invariant) c.in_ok-grow.ensures.all))
