use Rattle.std.proofs.Common.{rules, ◌≡◌}
use Rattle.mx_raymond.specs.Queue.{rest_of}
use Rattle.mx_raymond.proofs.Queues.{is_queue_rest, head_once}
use Rattle.mx_raymond.proofs.queue.Queue.remove_head.Goals as goal

pub invariant_of-self : goal.invariant_of-self
invariant_of-self c =
    let e : c.pop_at.new.self.items ≡ rest_of c.self.inside.names.items = search rules in
    rw e (is_queue_rest c.self.inside.names.items c.self.invariant)

pub returns-clause-once : goal.returns-clause-once
returns-clause-once c node h =
    let e : c.pop_at.new.self.items ≡ rest_of c.self.inside.names.items = search rules in
    rw e (head_once c.self.inside.names.items node c.self.invariant (rw c.self.view_is h))
