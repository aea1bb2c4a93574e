use Rattle.mx_jobs.proofs.Promised.{have_run}
use Rattle.mx_jobs.proofs.runs.finish.Goals as goal

pub gather-requires : goal.gather-requires
gather-requires g c = (search (c.requires-raw), c.requires)

pub returns-in-Ok-clause-ok : goal.returns-in-Ok-clause-ok
returns-in-Ok-clause-ok g c = λ o options posts all rests done.
    have_run g.J.Job.terms g.C.Exclusion.core options posts all o _ _ rests done _ _ c.in-Ok.ensures.ok
