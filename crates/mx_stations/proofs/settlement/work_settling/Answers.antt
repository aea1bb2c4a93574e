use Rattle.mx_stations.proofs.Rounding.{rounds_kept, rounds_never, rounds_node, rounds_some}
use Rattle.mx_stations.proofs.settlement.work_settling.Goals as goal

pub returns : goal.returns
returns g c =
    let core = g.C.Exclusion.core in let register = c.args.script.register in let every = c.args.every in
    let told = c.settle_on-worked.ensures in
    let works = rounds_some core register every c.args.turns _ _ told.most in
    record {
      works = works;
      never = rounds_never core register every _ _ works;
      most = told.most;
      same = rounds_kept core register every _ _ works;
      node = rounds_node core register every _ _ works;
      within = told.within;
      done = told.done;
      outside = told.outside;
      not_yet = told.not_yet;
      shut = told.shut;
    }
