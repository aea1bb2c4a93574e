use Rattle.std.proofs.Common.{rules}
use Rattle.mx_ricart.proofs.exclusion.RicartExclusion.can_enter.Goals as goal

pub returns-then-matches-clause-value : goal.returns-then-matches-clause-value
returns-then-matches-clause-value c = search rules

pub returns-then-matches-clause-granted : goal.returns-then-matches-clause-granted
returns-then-matches-clause-granted c = search rules

pub returns-else-matches-clause-value : goal.returns-else-matches-clause-value
returns-else-matches-clause-value c = search rules

pub returns-else-matches-clause-granted : goal.returns-else-matches-clause-granted
returns-else-matches-clause-granted c = search rules
