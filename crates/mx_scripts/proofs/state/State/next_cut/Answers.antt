use Rattle.mx_scripts.proofs.state.State.next_cut.Goals as goal

pub returns-in-Some : goal.returns-in-Some
returns-in-Some g c = rw (← c.self.view_is) (c.in-Some.link, c.in-Some.ensures.some, c.cut.ensures)

pub returns-in-None : goal.returns-in-None
returns-in-None g c = rw (← c.self.view_is) c.in-None.ensures.none
