use Rattle.std.proofs.Common.{rules}
use Rattle.mx_maekawa.proofs.arbiter.Arbiter.lock_for.Goals as goal

pub returns-then-self-lt18446744073709551615-clause-state : goal.returns-then-self-lt18446744073709551615-clause-state
returns-then-self-lt18446744073709551615-clause-state c = search rules
