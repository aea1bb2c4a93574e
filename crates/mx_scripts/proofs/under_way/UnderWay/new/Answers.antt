use Rattle.std.proofs.Common.{refl}
use Rattle.mx_scripts.proofs.UnderWayLemmas.{fresh}
use Rattle.mx_scripts.proofs.under_way.UnderWay.new.Goals as goal

pub invariant_of-result : goal.invariant_of-result
invariant_of-result c = fresh _ _ _ _ c.new.ensures.items c.new-2.ensures.items refl refl
