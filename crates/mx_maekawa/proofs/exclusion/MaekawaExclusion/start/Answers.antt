use Rattle.std.proofs.Common.{rules}
use Rattle.mx_maekawa.proofs.exclusion.MaekawaExclusion.start.Goals as goal

pub returns : goal.returns
returns c = search rules
