use Rattle.std.proofs.Common.{arith}
use Rattle.mx_journal.proofs.Found.{few_before, flat_more, run_at}
use Rattle.mx_journal.proofs.places.len_of.Goals as goal

pub overflow_sub-len : goal.overflow_sub-len
overflow_sub-len c =
    let w = run_at 1 c.args.runs.now c.loop-run.run-index c.run-item.result c.requires c.loop-run-test.true c.run-item.is in
    let end = w.1 in
    let some = w.2 in
    omega (arith, c.first.ensures, c.last.ensures)

pub overflow_add-len : goal.overflow_add-len
overflow_add-len c =
    let w = run_at 1 c.args.runs.now c.loop-run.run-index c.run-item.result c.requires c.loop-run-test.true c.run-item.is in
    let low = w.3 in
    omega (arith, c.first.ensures, c.last.ensures, c.last.type_inv)

pub overflow_add-len-in-loop-run : goal.overflow_add-len-in-loop-run
overflow_add-len-in-loop-run c =
    let w = run_at 1 c.args.runs.now c.loop-run.run-index c.run-item.result c.requires c.loop-run-test.true c.run-item.is in
    let end = w.1 in
    let some = w.2 in
    let few = few_before 1 c.args.runs.now c.loop-run.run-index c.run-item.result c.requires c.loop-run-test.true c.run-item.is in
    omega (arith, c.first.ensures, c.last.ensures, c.last.type_inv, c.loop-run.invariant)

pub loop-run-preserved : goal.loop-run-preserved
loop-run-preserved c =
    let w = run_at 1 c.args.runs.now c.loop-run.run-index c.run-item.result c.requires c.loop-run-test.true c.run-item.is in
    let end = w.1 in
    let some = w.2 in
    omega (arith, c.first.ensures, c.last.ensures, c.loop-run.invariant, flat_more c.args.runs.now c.loop-run.run-index c.run-item.result c.loop-run-test.true c.run-item.is)
