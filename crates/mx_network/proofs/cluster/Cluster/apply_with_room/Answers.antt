use Rattle.mx_network.proofs.Refused.{exits}
use Rattle.mx_network.proofs.cluster.Cluster.apply_with_room.Goals as goal

pub returns-in-Ok-clause-room : goal.returns-in-Ok-clause-room
returns-in-Ok-clause-room g c = λ receipt told.
    let exit = exits g.C.Exclusion.core c.args.self.now c.apply.new.self receipt c.args.event c.in-Ok.ensures.ok told in
    c.in_ok-room.ensures.some exit.0 exit.1 exit.2
