use Rattle.std.proofs.Common.{◌∙◌, ap, arith, length, sym}
use Rattle.std.specs.List.{enumerate_from}
use Rattle.mx_network.specs.ParcelLog.{sent_of}
use Rattle.mx_network.proofs.Numbered.{none_left, one_left}
use Rattle.mx_network.proofs.parcels.ParcelsIterator.next.Goals as goal

pub returns-in-Some-clause-steps : goal.returns-in-Some-clause-steps
returns-in-Some-clause-steps g c =
    sym c.self.view_is ∙ one_left (sent_of c.self.inside.kept.now c.self.inside.sendings.now) c.self.inside.number _ c.in-Some.ensures.value

pub returns-in-Some-clause-goes : goal.returns-in-Some-clause-goes
returns-in-Some-clause-goes g c =
    let fewer = ap length (returns-in-Some-clause-steps g c) in
    record { on = λ finite. (tt, tt, omega (arith, fewer)); keeps = tt; rests = λ finite. tt }

pub returns-in-None-clause-steps : goal.returns-in-None-clause-steps
returns-in-None-clause-steps g c =
    let empty = sym c.self.view_is ∙ ap (enumerate_from c.self.inside.number) (none_left (sent_of c.self.inside.kept.now c.self.inside.sendings.now) c.self.inside.number c.in-None.ensures.value) in
    (empty, empty)
