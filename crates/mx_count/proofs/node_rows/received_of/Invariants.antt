use Rattle.std.proofs.Common.{◌≡◌, ◌+◌, drop}
use Rattle.std.specs.List.{count_by}
use Rattle.mx_trace.specs.declared.outcome.Entry.{Entry}
use Rattle.mx_count.specs.NodeCounts.{is_delivered_to}
use Rattle.mx_count.proofs.node_rows.received_of.Given as goal

abbrev pub invariant-loop-entry : goal.invariant-loop-entry
invariant-loop-entry g l =
    let counts = λ (entry : Entry). is_delivered_to l.node l.cluster.sent entry.event in
    l.count + count_by counts (drop l.entry-index l.trace) ≡ count_by counts l.trace
