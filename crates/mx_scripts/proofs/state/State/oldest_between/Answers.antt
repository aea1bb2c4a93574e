use Rattle.std.proofs.Common.{refl}
use Rattle.mx_scripts.proofs.state.State.oldest_between.Goals as goal

pub returns-in-Some-clause-found : goal.returns-in-Some-clause-found
returns-in-Some-clause-found g c = c.in-Some.ensures.some

pub returns-in-None-clause-none : goal.returns-in-None-clause-none
returns-in-None-clause-none g c = (refl, c.in-None.ensures.none)
