use Rattle.std.proofs.Common.{◌≡◌, ◌++◌, drop}
use Rattle.mx_count.specs.Measures.{measured}
use Rattle.mx_count.proofs.measures.measured.Given as goal

abbrev pub invariant-loop-index : goal.invariant-loop-index
invariant-loop-index g l = l.numbers.items ++ measured l.measure l.cluster.sent (drop l.index l.trace) ≡ measured l.measure l.cluster.sent l.trace
