use Rattle.std.proofs.Common.{rules, ◌≡◌}
use Rattle.atomic_table.proofs.Lists.{at_index}
use Rattle.mx_stamps.proofs.Choices.{not_both}
use Rattle.mx_nodelaws.specs.Core.{IsInside}
use Rattle.mx_stations.proofs.Gathers.{below_more, below_all, below_none}
use Rattle.mx_stations.proofs.collection.has_inside.Goals as goal
use Rattle.mx_stations.proofs.collection.has_inside.Goals.{else-is_of-via-then-is_of+else-is_inside, else-is_of-via-else-is_of}

pub returns-then-is_inside : goal.returns-then-is_inside
returns-then-is_inside g c =
    (c.loop-station.station-index, c.station-item.result, at_index _ _ _ c.loop-station-test.true c.station-item.is, c.is_of.ensures.0 c.if-is_of.true, c.is_inside.ensures.0 c.if-is_inside.true)

pub loop-station-preserved : goal.loop-station-preserved
loop-station-preserved g c =
    below_more (λ s. s.me.node ≡ c.args.node → IsInside g.C.Exclusion.core s.me.member.core → ⊥) _ _ c.station-item.result c.loop-station.invariant (at_index _ _ _ c.loop-station-test.true c.station-item.is)
    (λ e inside. elim c.else-is_of.branch [
      | else-is_of-via-then-is_of+else-is_inside w ↦ not_both _ (w.is_inside.ensures.1 inside) w.if-is_inside.false
      | else-is_of-via-else-is_of w ↦ not_both _ (c.is_of.ensures.1 e) w.if-is_of.false
    ])

pub returns : goal.returns
returns g c = below_all (λ s. s.me.node ≡ c.args.node → IsInside g.C.Exclusion.core s.me.member.core → ⊥) _ _ c.loop-station.invariant c.loop-station-test.false

pub is_of-requires : goal.is_of-requires
is_of-requires g c = search rules

pub is_inside-requires : goal.is_inside-requires
is_inside-requires g c = search rules

pub loop-station-init : goal.loop-station-init
loop-station-init g c = below_none _ _
