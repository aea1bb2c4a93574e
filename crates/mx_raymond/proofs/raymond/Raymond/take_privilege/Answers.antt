use Rattle.std.proofs.Common.{rules}
use Rattle.mx_raymond.proofs.raymond.Raymond.take_privilege.Goals as goal

pub returns-then-hop-self-clause-state : goal.returns-then-hop-self-clause-state
returns-then-hop-self-clause-state c = search rules

pub returns-then-hop-self-clause-letters : goal.returns-then-hop-self-clause-letters
returns-then-hop-self-clause-letters c = search rules
