use Rattle.mx_stations.specs.Works.{IsWithin, WorksFor}
use Rattle.mx_stations.proofs.settlement.settle_on.Given as goal

abbrev pub invariant-loop-turn : goal.invariant-loop-turn
invariant-loop-turn g l = record {
  works : WorksFor g.C.Exclusion.core l.fn.script.register l.fn.every l._turn l.fn.station l.station;
  within : IsWithin g.C.Exclusion.core l.fn.script.sections l.fn.station → IsWithin g.C.Exclusion.core l.fn.script.sections l.station;
}
