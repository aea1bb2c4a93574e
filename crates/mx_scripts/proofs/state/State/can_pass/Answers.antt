use Rattle.std.proofs.Common.{rules}
use Rattle.mx_scripts.proofs.state.State.can_pass.Goals as goal

pub can_pass-requires : goal.can_pass-requires
can_pass-requires g c = search rules

pub returns : goal.returns
returns g c = rw (← c.self.view_is) c.can_pass.ensures
