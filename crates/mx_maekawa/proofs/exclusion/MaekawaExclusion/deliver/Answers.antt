use Rattle.std.proofs.Common.{rules}
use Rattle.mx_maekawa.proofs.exclusion.MaekawaExclusion.deliver.Goals as goal

pub returns-then-is_call-clause-state : goal.returns-then-is_call-clause-state
returns-then-is_call-clause-state c = search rules
