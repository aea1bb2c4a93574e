use Rattle.std.proofs.Common.{rules}
use Rattle.mx_ricart.proofs.exclusion.RicartExclusion.ask.Goals as goal

pub returns-in_default-next-clause-answer : goal.returns-in_default-next-clause-answer
returns-in_default-next-clause-answer c = search rules

pub returns-clause-state : goal.returns-clause-state
returns-clause-state c = search rules

pub returns-clause-answer : goal.returns-clause-answer
returns-clause-answer c = search rules

pub returns-clause-letters : goal.returns-clause-letters
returns-clause-letters c = search rules
