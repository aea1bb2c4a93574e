use Rattle.std.proofs.Common.{rules}
use Rattle.mx_ricart.proofs.ricart.Ricart.end_request.Goals as goal

pub returns-clause-state : goal.returns-clause-state
returns-clause-state c = search rules
