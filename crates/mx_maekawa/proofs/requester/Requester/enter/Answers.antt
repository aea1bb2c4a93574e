use Rattle.std.proofs.Common.{rules}
use Rattle.mx_maekawa.proofs.requester.Requester.enter.Goals as goal

pub invariant_of-self : goal.invariant_of-self
invariant_of-self c = search rules

pub returns-clause-state : goal.returns-clause-state
returns-clause-state c = search rules

pub returns-then-not-holds_all-clause-state : goal.returns-then-not-holds_all-clause-state
returns-then-not-holds_all-clause-state c = search rules

pub returns-then-not-holds_all-clause-answer : goal.returns-then-not-holds_all-clause-answer
returns-then-not-holds_all-clause-answer c = search rules
