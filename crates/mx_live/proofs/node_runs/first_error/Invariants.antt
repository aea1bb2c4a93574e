use Rattle.std.proofs.Common.{◌≡◌, take}
use Rattle.std.specs.List.{All}
use Rattle.mx_stations.specs.declared.worker.Worked.TheVariants.{Done}
use Rattle.mx_live.proofs.node_runs.first_error.Given as goal

abbrev pub invariant-loop-one : goal.invariant-loop-one
invariant-loop-one g l = All (λ one. one.1 ≡ Done) (take l.one-index l.left)
