use Rattle.mx_stations.proofs.SameTable.{kept_on}
use Rattle.mx_tests.proofs.station_calls.assert_calls.Goals as goal

pub loop-i-preserved : goal.loop-i-preserved
loop-i-preserved g c = record {
  zero = kept_on c.args.zero.now c.loop-i.zero c.holds_at-is_so.new.zero c.loop-i.invariant.zero c.holds_at-is_so.ensures.0;
  one = kept_on c.args.one.now c.loop-i.one c.holds_at-is_so.new.one c.loop-i.invariant.one c.holds_at-is_so.ensures.1;
}
