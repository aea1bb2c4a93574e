use Rattle.std.proofs.Common.{rules}
use Rattle.mx_raymond.proofs.exclusion.RaymondExclusion.cancel.Goals as goal

pub returns-then-not-matches-clause-answer : goal.returns-then-not-matches-clause-answer
returns-then-not-matches-clause-answer c = search rules
