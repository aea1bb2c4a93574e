use Rattle.std.proofs.Common.{rules}
use Rattle.mx_maekawa.proofs.requester.Requester.end_request.Goals as goal

pub returns-clause-state : goal.returns-clause-state
returns-clause-state c = search rules

pub returns-clause-letters : goal.returns-clause-letters
returns-clause-letters c = search rules
