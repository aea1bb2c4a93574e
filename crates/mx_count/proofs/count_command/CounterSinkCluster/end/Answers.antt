use Rattle.mx_count.proofs.PrintedLemmas.{nothing_said}
use Rattle.mx_count.proofs.count_command.CounterSinkCluster.end.Goals as goal

pub returns-clause-closed : goal.returns-clause-closed
returns-clause-closed g c = nothing_said c.add_counts.result
