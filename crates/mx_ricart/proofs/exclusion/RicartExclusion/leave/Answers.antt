use Rattle.std.proofs.Common.{rules}
use Rattle.mx_ricart.proofs.exclusion.RicartExclusion.leave.Goals as goal

pub returns-clause-answer : goal.returns-clause-answer
returns-clause-answer c = search rules
