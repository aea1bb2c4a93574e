use Rattle.std.proofs.Common.{◌≡◌, ◌+◌, drop}
use Rattle.std.specs.List.{count_by}
use Rattle.mx_trace.specs.declared.outcome.Entry.{Entry}
use Rattle.mx_count.specs.Measures.{delivers_letter}
use Rattle.mx_count.proofs.measures.letters_in.Given as goal

abbrev pub invariant-loop-entry : goal.invariant-loop-entry
invariant-loop-entry g l =
    let counts = λ (entry : Entry). delivers_letter l.cluster.sent entry.event in
    l.count + count_by counts (drop l.entry-index l.entries) ≡ count_by counts l.entries
