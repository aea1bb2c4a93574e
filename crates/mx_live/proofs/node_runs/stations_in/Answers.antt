use Rattle.mx_live.proofs.WorkerLemmas.{stations_rest}
use Rattle.mx_live.proofs.node_runs.stations_in.Goals as goal

pub returns : goal.returns
returns g c = stations_rest g.C.Exclusion.core c.args.shape.now c.args.plan.now _ _ _ _ _ c.requires c.origin.ensures.value c.sections.ensures.value c.registers.ensures.value c.stations.ensures
