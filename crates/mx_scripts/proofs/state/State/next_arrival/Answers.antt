use Rattle.mx_scripts.proofs.state.State.next_arrival.Goals as goal

pub returns-in-Some : goal.returns-in-Some
returns-in-Some g c = (c.in-Some.number, c.in-Some.ensures.some, c.arrival.ensures)

pub returns-in-None : goal.returns-in-None
returns-in-None g c = c.in-None.ensures.none
