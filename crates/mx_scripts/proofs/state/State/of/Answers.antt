use Rattle.std.proofs.Common.{ap}
use Rattle.mx_scripts.specs.Fates.{Fates}
use Rattle.mx_scripts.proofs.ListedLemmas.{listed_none}
use Rattle.mx_scripts.proofs.state.State.of.Goals as goal

pub invariant_of-result : goal.invariant_of-result
invariant_of-result g c = listed_none _ _ _ (ap (λ (f : Fates). f.gone) c.new.ensures) c.new-2.ensures
