use Rattle.mx_plan.proofs.plan.Plan.register_name.Goals as goal

pub returns : goal.returns
returns c = record { value = rw (← c.self.view_is, ← c.from.ensures) c.get.ensures }
