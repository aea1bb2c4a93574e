use Rattle.mx_draw.proofs.stepper.Stepper.next.Goals as goal

pub returns-in-Some-clause-event : goal.returns-in-Some-clause-event
returns-in-Some-clause-event g c = rw c.in-Some.is c.walk.ensures.event
