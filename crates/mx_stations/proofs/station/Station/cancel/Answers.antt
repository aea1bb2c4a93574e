use Rattle.mx_stations.proofs.station.Station.cancel.Goals as goal

pub unreachable-requires : goal.unreachable-requires
unreachable-requires g c = c.in_default.not-Cancelled _ c.does.ensures.answer

pub returns-clause-answer : goal.returns-clause-answer
returns-clause-answer g c = let e = c.in-Cancelled.ensures.answer in cc
