use Rattle.mx_stations.proofs.station.Station.settle.Goals as goal

pub unreachable-requires : goal.unreachable-requires
unreachable-requires g c = c.in_default.not-Settled _ c.does.ensures.answer

pub returns-clause-answer : goal.returns-clause-answer
returns-clause-answer g c = let e = c.in-Settled.ensures.answer in cc
