use Rattle.std.proofs.Common.{rules}
use Rattle.mx_ricart.proofs.count.Count.of.Goals as goal

pub returns-else-nodes-gt0-clause-some : goal.returns-else-nodes-gt0-clause-some
returns-else-nodes-gt0-clause-some c = search rules
