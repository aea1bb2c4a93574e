use Rattle.std.proofs.Common.{lit<, arith}
use Rattle.mx_raymond.proofs.Queues.{room, is_queue_pushed}
use Rattle.mx_raymond.proofs.queue.Queue.push.Goals as goal

pub push-requires : goal.push-requires
push-requires c = (lit< tt, room c.self.inside.names.items c.args.node c.self.invariant (omega arith) (rw c.self.view_is c.requires))

pub invariant_of-self : goal.invariant_of-self
invariant_of-self c = rw c.push.ensures.items (is_queue_pushed c.self.inside.names.items c.args.node c.self.invariant (omega arith) (rw c.self.view_is c.requires))
