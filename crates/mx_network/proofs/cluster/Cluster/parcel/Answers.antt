use Rattle.mx_network.proofs.cluster.Cluster.parcel.Goals as goal

pub returns-in-Some : goal.returns-in-Some
returns-in-Some g c = rw (← c.self.view_is) c.in-Some.ensures

pub returns-in-None : goal.returns-in-None
returns-in-None g c = rw (← c.self.view_is) c.in-None.ensures
