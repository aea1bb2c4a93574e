use Rattle.std.proofs.Common.{rules}
use Rattle.mx_raymond.proofs.exclusion.RaymondExclusion.tick.Goals as goal

pub returns-clause-letters : goal.returns-clause-letters
returns-clause-letters c = search rules
