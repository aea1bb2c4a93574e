use Rattle.std.proofs.Common.{rules}
use Rattle.mx_ricart.proofs.exclusion.RicartExclusion.nodes.Goals as goal

pub returns-clause-value : goal.returns-clause-value
returns-clause-value c = search rules
