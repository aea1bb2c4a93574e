use Rattle.mx_stations.proofs.station.Station.enter.Goals as goal

pub unreachable-requires : goal.unreachable-requires
unreachable-requires g c = c.in_default.not-Entered _ c.does.ensures.answer

pub returns-clause-answer : goal.returns-clause-answer
returns-clause-answer g c = let e = c.in-Entered.ensures.answer in cc
