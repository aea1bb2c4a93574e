use Rattle.std.proofs.Common.{rules}
use Rattle.mx_raymond.proofs.raymond.Raymond.withdraw.Goals as goal

pub returns : goal.returns
returns c = search rules
