use Rattle.mx_network.proofs.cluster.Cluster.sent.Goals as goal

pub returns : goal.returns
returns g c = rw (← c.self.view_is) c.len.ensures
