use Rattle.std.proofs.Common.{rules}
use Rattle.mx_maekawa.proofs.requester.Requester.cancel.Goals as goal

pub returns-clause-letters : goal.returns-clause-letters
returns-clause-letters c = search rules

pub returns-then-not-matches-clause-answer : goal.returns-then-not-matches-clause-answer
returns-then-not-matches-clause-answer c = search rules
