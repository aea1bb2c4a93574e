use Rattle.mx_plan.proofs.plan.Plan.register.Goals as goal

pub returns-clause-value : goal.returns-clause-value
returns-clause-value c = rw (← c.self.view_is) c.in_ok-index.ensures.index

pub returns-clause-within : goal.returns-clause-within
returns-clause-within c = rw (← c.self.view_is) c.in_ok-index.ensures.within
