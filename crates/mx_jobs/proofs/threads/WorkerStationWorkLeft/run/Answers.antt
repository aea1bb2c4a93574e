use Rattle.std.proofs.Common.{subst}
use Rattle.mx_jobs.specs.declared.worker.Ended.{Ended}
use Rattle.mx_jobs.specs.Rounds.{Works}
use Rattle.mx_jobs.proofs.threads.WorkerStationWorkLeft.run.Goals as goal

pub returns : goal.returns
returns g c =
    let ended = c.work-ended.ensures in record {
      works = ended.works;
      done = λ is. record {
        advanced = ended.done is;
        finished = ended.finished is;
        outside = ended.outside is;
        works = subst (λ (e : Ended). Works g.C.Exclusion.core c.args.self.options e c.args.self.station c.work-ended.new.station) is ended.works;
      };
      reached = ended.not_yet;
      idles = ended.idles;
      broken = ended.broken;
      shut = ended.shut;
    }
