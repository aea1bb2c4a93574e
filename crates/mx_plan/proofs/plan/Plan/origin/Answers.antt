use Rattle.std.proofs.Common.{refl}
use Rattle.mx_plan.proofs.plan.Plan.origin.Goals as goal

pub returns : goal.returns
returns c = record { value = rw (← c.self.view_is) refl }
