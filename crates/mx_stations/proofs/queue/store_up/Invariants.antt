use Rattle.std.proofs.Common.{◌≡◌, take}
use Rattle.mx_stations.specs.Posts.{waiting_after}
use Rattle.mx_stations.proofs.queue.store_up.Given as goal

abbrev pub invariant-loop-sent : goal.invariant-loop-sent
invariant-loop-sent g l = l.waiting.items ≡ waiting_after l.fn.waiting.items (take l.sent-index l.sent-items)
