use Rattle.mx_scripts.proofs.state.State.is_wanted.Goals as goal

pub returns : goal.returns
returns g c = rw (← c.self.view_is) c.is_wanted.ensures
