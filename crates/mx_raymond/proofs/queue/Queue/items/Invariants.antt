use Rattle.std.proofs.Common.{◌≡◌, take}
use Rattle.mx_raymond.specs.Queue.{queue_items}
use Rattle.mx_raymond.proofs.queue.Queue.items.Given as goal

abbrev pub invariant-loop-name : goal.invariant-loop-name
invariant-loop-name l = l.items.items ≡ queue_items (take l.name-index l.name-items)
