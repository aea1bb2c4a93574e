use Rattle.mx_count.proofs.CountLemmas.{wait_end, wait_more}
use Rattle.mx_count.specs.Waits.{longest_wait}
use Rattle.mx_count.proofs.waits.longest_wait.Goals as goal

pub loop-index-preserved : goal.loop-index-preserved
loop-index-preserved c =
    wait_more c.args.trace.now c.loop-index.index c.loop-index.longest (longest_wait c.args.trace.now) c.wait_from.result c.max-longest.result _ c.loop-index-test.true c.loop-index.invariant
    c.wait_from.ensures c.max-longest.ensures c.index-trace-index.is

pub returns : goal.returns
returns c = wait_end c.args.trace.now c.loop-index.index c.loop-index.longest (longest_wait c.args.trace.now) c.loop-index-test.false c.loop-index.invariant
