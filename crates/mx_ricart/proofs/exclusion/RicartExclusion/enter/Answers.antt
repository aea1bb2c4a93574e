use Rattle.std.proofs.Common.{rules}
use Rattle.mx_ricart.proofs.exclusion.RicartExclusion.enter.Goals as goal

pub returns-then-not-has_all_replies-clause-state : goal.returns-then-not-has_all_replies-clause-state
returns-then-not-has_all_replies-clause-state c = search rules

pub returns-then-not-has_all_replies-clause-answer : goal.returns-then-not-has_all_replies-clause-answer
returns-then-not-has_all_replies-clause-answer c = search rules

pub invariant_of-self : goal.invariant_of-self
invariant_of-self c = search rules

pub returns-clause-state : goal.returns-clause-state
returns-clause-state c = search rules

pub returns-clause-answer : goal.returns-clause-answer
returns-clause-answer c = search rules
