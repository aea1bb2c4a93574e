use Rattle.mx_network.proofs.cluster.Cluster.sent_parcel.Goals as goal

pub returns : goal.returns
returns g c = rw (← c.self.view_is) c.get.ensures
