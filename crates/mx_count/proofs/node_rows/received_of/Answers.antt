use Rattle.std.proofs.Common.{◌∙◌, ◌≤◌, ◌+◌, ap, arith, length}
use Rattle.std.specs.List.{count_by}
use Rattle.mx_trace.specs.declared.outcome.Entry.{Entry}
use Rattle.mx_count.specs.NodeCounts.{is_delivered_to}
use Rattle.mx_count.proofs.CountLemmas.{count_end, count_fits, count_item}
use Rattle.mx_count.proofs.node_rows.received_of.Goals as goal

pub overflow_add-count : goal.overflow_add-count
overflow_add-count g c =
    let counts = λ (entry : Entry). is_delivered_to c.args.node c.args.cluster.now.sent entry.event in
    let entries = c.args.trace.now in
    let step = count_item counts entries c.loop-entry.entry-index _ c.is_delivered_to.result c.from-count.result c.loop-entry.count (count_by counts entries) c.loop-entry-test.true c.loop-entry.invariant
    (c.is_delivered_to.ensures ∙ ap counts c.entry-item.is) c.from-count.ensures in
    let fits : c.loop-entry.count + c.from-count.result ≤ length entries = count_fits counts entries (c.loop-entry.count + c.from-count.result) _ step in
    omega arith

pub loop-entry-preserved : goal.loop-entry-preserved
loop-entry-preserved g c =
    let counts = λ (entry : Entry). is_delivered_to c.args.node c.args.cluster.now.sent entry.event in
    let entries = c.args.trace.now in
    count_item counts entries c.loop-entry.entry-index _ c.is_delivered_to.result c.from-count.result c.loop-entry.count (count_by counts entries) c.loop-entry-test.true c.loop-entry.invariant
    (c.is_delivered_to.ensures ∙ ap counts c.entry-item.is) c.from-count.ensures

pub returns : goal.returns
returns g c =
    let counts = λ (entry : Entry). is_delivered_to c.args.node c.args.cluster.now.sent entry.event in
    let entries = c.args.trace.now in
    count_end counts entries c.loop-entry.entry-index c.loop-entry.count (count_by counts entries) c.loop-entry-test.false c.loop-entry.invariant
