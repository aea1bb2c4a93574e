use Rattle.std.proofs.Common.{rules}
use Rattle.mx_ricart.proofs.exclusion.RicartExclusion.tick.Goals as goal

pub returns-then-matches-clause-letters : goal.returns-then-matches-clause-letters
returns-then-matches-clause-letters c = search rules
