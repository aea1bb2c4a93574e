use Rattle.mx_member.specs.declared.acts.Answer.TheVariants as answer
use Rattle.mx_stations.proofs.Plain.{done_as}
use Rattle.mx_stations.proofs.station.Station.tick.Goals as goal

pub returns : goal.returns
returns g c = let d = c.does-ticked.ensures in done_as _ answer.Ticked _ d.answer d.done
