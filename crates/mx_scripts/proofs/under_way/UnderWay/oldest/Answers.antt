use Rattle.mx_scripts.proofs.under_way.UnderWay.oldest.Goals as goal

pub returns-clause-below : goal.returns-clause-below
returns-clause-below c = rw (← c.self.view_is) c.self.invariant.old
