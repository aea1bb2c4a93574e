use Rattle.std.proofs.Common.{◌≢◌}
use Rattle.atomic_table.proofs.Lists.{at_index}
use Rattle.mx_stamps.proofs.Choices.{not_both}
use Rattle.mx_stations.proofs.Gathers.{below_more, below_all}
use Rattle.mx_stations.proofs.collection.has.Goals as goal

pub returns-then-is_of : goal.returns-then-is_of
returns-then-is_of g c =
    (c.loop-station.station-index, c.station-item.result, at_index _ _ _ c.loop-station-test.true c.station-item.is, c.is_of.ensures.0 c.if-is_of.true)

pub loop-station-preserved : goal.loop-station-preserved
loop-station-preserved g c =
    below_more (λ s. s.me.node ≢ c.args.node) _ _ c.station-item.result c.loop-station.invariant (at_index _ _ _ c.loop-station-test.true c.station-item.is) (λ e. not_both _ (c.is_of.ensures.1 e) c.if-is_of.false)

pub returns : goal.returns
returns g c = below_all (λ s. s.me.node ≢ c.args.node) _ _ c.loop-station.invariant c.loop-station-test.false
