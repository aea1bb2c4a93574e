use Rattle.std.proofs.Common.{refl}
use Rattle.mx_draw.proofs.stepper.Stepper.of.Goals as goal

pub returns : goal.returns
returns c = rw (c.seed_from_u64.ensures, c.new.ensures.items) refl
