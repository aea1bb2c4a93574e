use Rattle.std.proofs.Common.{refl}
use Rattle.mx_explorer.proofs.weather.Weather.of.Goals as goal

pub returns : goal.returns
returns c = rw c.seed_from_u64.ensures refl
