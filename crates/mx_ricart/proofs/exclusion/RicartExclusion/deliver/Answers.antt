use Rattle.std.proofs.Common.{rules}
use Rattle.mx_ricart.proofs.exclusion.RicartExclusion.deliver.Goals as goal

pub returns-else-is_other-clause-state : goal.returns-else-is_other-clause-state
returns-else-is_other-clause-state c = search rules

pub returns-else-is_other-clause-letters : goal.returns-else-is_other-clause-letters
returns-else-is_other-clause-letters c = search rules
