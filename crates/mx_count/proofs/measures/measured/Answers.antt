use Rattle.mx_count.proofs.MeasureLemmas.{measured_end, measured_more}
use Rattle.mx_count.specs.Measures.{measured}
use Rattle.mx_count.proofs.measures.measured.Goals as goal

pub loop-index-preserved : goal.loop-index-preserved
loop-index-preserved g c =
    let sent = c.args.cluster.now.sent in
    measured_more c.args.measure sent c.args.trace.now c.loop-index.index c.loop-index.numbers.items c.add_measured.new.numbers.items (measured c.args.measure sent c.args.trace.now) _ c.loop-index-test.true
    c.loop-index.invariant c.in_ok-add_measured.ensures c.index-trace-index.is

pub returns : goal.returns
returns g c =
    let sent = c.args.cluster.now.sent in
    measured_end c.args.measure sent c.args.trace.now c.loop-index.index c.loop-index.numbers.items (measured c.args.measure sent c.args.trace.now) c.loop-index-test.false c.loop-index.invariant
