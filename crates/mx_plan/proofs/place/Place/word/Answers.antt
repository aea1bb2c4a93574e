use Rattle.std.proofs.Common.{refl}
use Rattle.mx_plan.proofs.place.Place.word.Goals as goal

pub returns-in-Holder : goal.returns-in-Holder
returns-in-Holder c = rw c.in-Holder.is refl
