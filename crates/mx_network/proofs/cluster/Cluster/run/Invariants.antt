use Rattle.std.proofs.Common.{take}
use Rattle.mx_network.specs.Step.{RunsTo}
use Rattle.mx_network.proofs.cluster.Cluster.run.Given as goal

abbrev pub invariant-loop-index : goal.invariant-loop-index
invariant-loop-index g l = RunsTo g.C.Exclusion.core l.fn.self (take l.index l.events) l.self
