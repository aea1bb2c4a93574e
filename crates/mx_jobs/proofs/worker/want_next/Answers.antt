use Rattle.std.proofs.Common.{ap, refl}
use Rattle.mx_member.specs.declared.acts.Act.TheVariants.{Want}
use Rattle.mx_stations.specs.Turns.{Station}
use Rattle.mx_jobs.proofs.Members.{rests_acting}
use Rattle.mx_jobs.proofs.Rounding.{one_act}
use Rattle.mx_jobs.proofs.worker.want_next.Goals as goal

pub returns-in-Some-clause-rests : goal.returns-in-Some-clause-rests
returns-in-Some-clause-rests g c = rests_acting g.C.Exclusion.core (Want c.in-Some.next) c.args.station.now c.want.new.self refl refl c.want.ensures

pub returns-in-Some-clause-acts : goal.returns-in-Some-clause-acts
returns-in-Some-clause-acts g c = one_act g.C.Exclusion.core (Want c.in-Some.next) c.args.station.now c.want.new.self c.in-Some.ensures c.want.ensures

pub returns-in-Some-clause-phase : goal.returns-in-Some-clause-phase
returns-in-Some-clause-phase g c = ap (λ (s : Station g.C.Exclusion.core). s.me.member.core) c.want.ensures
