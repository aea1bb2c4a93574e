use Rattle.std.proofs.Common.{rules}
use Rattle.mx_maekawa.proofs.exclusion.MaekawaExclusion.tick.Goals as goal

pub returns-clause-letters : goal.returns-clause-letters
returns-clause-letters c = search rules
