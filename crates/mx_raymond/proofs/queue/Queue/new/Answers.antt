use Rattle.mx_raymond.proofs.Queues.{is_queue_empty}
use Rattle.mx_raymond.proofs.queue.Queue.new.Goals as goal

pub invariant_of-result : goal.invariant_of-result
invariant_of-result c = rw c.new.ensures is_queue_empty
