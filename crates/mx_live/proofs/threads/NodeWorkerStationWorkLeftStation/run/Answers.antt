use Rattle.std.proofs.Common.{ℕ, subst}
use Rattle.mx_stations.specs.Works.{WorksFor}
use Rattle.mx_live.proofs.WorkerLemmas.{none_more}
use Rattle.mx_live.proofs.threads.NodeWorkerStationWorkLeftStation.run.Goals as goal

pub returns : goal.returns
returns g c =
    let work = c.work_settling-ended.ensures in
    let orders = c.args.self.orders in
    record {
      works = work.most;
      most = none_more g.C.Exclusion.core g.met.C.Exclusion.phases orders.sections c.args.self.station c.work_settling-ended.result.0 work.within;
      done = work.done;
      spent = λ n ended. let not_yet = work.not_yet n ended in (not_yet.0, subst (λ (k : ℕ). WorksFor g.C.Exclusion.core 0 orders.settle k c.args.self.station c.work_settling-ended.result.0) not_yet.0 not_yet.1);
      shut = work.shut;
    }
