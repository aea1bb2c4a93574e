use Rattle.std.proofs.Common.{◌≡◌, ◌-◌}
use Rattle.mx_draw.specs.Walk.{ready_from}
use Rattle.mx_draw.proofs.own_actions.ready_or.Given as goal

abbrev pub invariant-loop-offset : goal.invariant-loop-offset
invariant-loop-offset g l =
    ready_from g.C.Exclusion.core l.cluster.members l.nodes l.any l.offset (l.nodes - l.offset)
    ≡ ready_from g.C.Exclusion.core l.cluster.members l.nodes l.any 0 l.nodes
