use Rattle.mx_plan.proofs.faults.PlanFaultDisplay.fmt.Goals as goal

pub returns-in-BadShape-clause-writes : goal.returns-in-BadShape-clause-writes
returns-in-BadShape-clause-writes c s plain ok = rw s.in-BadShape.is (s.write-in-BadShape.ensures.writes plain ok)
