use Rattle.std.proofs.Common.{rules}
use Rattle.mx_ricart.proofs.exclusion.RicartExclusion.start.Goals as goal

pub returns : goal.returns
returns c = search rules
