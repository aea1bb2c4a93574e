use Rattle.std.proofs.Common.{rules}
use Rattle.mx_maekawa.proofs.requester.Requester.take_locked.Goals as goal

pub returns-then-grant-self-clause-state : goal.returns-then-grant-self-clause-state
returns-then-grant-self-clause-state c = search rules
