use Rattle.std.proofs.Common.{rules}
use Rattle.mx_raymond.proofs.exclusion.RaymondExclusion.enter.Goals as goal

pub returns-then-not-has_permission-clause-state : goal.returns-then-not-has_permission-clause-state
returns-then-not-has_permission-clause-state c = search rules

pub returns-then-not-has_permission-clause-answer : goal.returns-then-not-has_permission-clause-answer
returns-then-not-has_permission-clause-answer c = search rules
