use Rattle.std.proofs.Common.{rules}
use Rattle.mx_raymond.proofs.exclusion.RaymondExclusion.start.Goals as goal

pub returns : goal.returns
returns c = search rules
