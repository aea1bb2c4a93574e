use Rattle.mx_network.proofs.cluster.Cluster.parcels_from.Goals as goal

pub returns : goal.returns
returns g c = rw (← c.self.view_is) c.parcels_from.ensures
