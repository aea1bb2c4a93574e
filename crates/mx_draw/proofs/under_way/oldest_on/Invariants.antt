use Rattle.std.proofs.Common.{◌≡◌, drop}
use Rattle.mx_draw.specs.Walk.{oldest_on}
use Rattle.mx_draw.proofs.under_way.oldest_on.Given as goal

abbrev pub invariant-loop-other : goal.invariant-loop-other
invariant-loop-other g l =
    oldest_on l.cluster.sent l.from l.to l.oldest (drop l.other-index l.flying) ≡ oldest_on l.cluster.sent l.from l.to l.number l.flying
