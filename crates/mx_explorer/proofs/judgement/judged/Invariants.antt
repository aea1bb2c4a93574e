use Rattle.std.proofs.Common.{◌≡◌, List, [], drop}
use Rattle.mx_trace.specs.Sections.{Section, after_marks}
use Rattle.mx_trace.specs.Trace.{marks, sections}
use Rattle.mx_explorer.specs.Ledger.{IsLedgerOf}
use Rattle.mx_explorer.proofs.Judged.{judged, shifted}
use Rattle.mx_explorer.proofs.judgement.judged.Given as goal

-- the verdict is that of the items to come, after the sections so far, to which their marks lead on
abbrev pub invariant-loop-index : goal.invariant-loop-index
invariant-loop-index l =
    (ss : List Section) × IsLedgerOf ss l.ledger × (judged [] l.trace ≡ shifted l.index (judged ss (drop l.index l.trace)))
    × (after_marks ss (marks (drop l.index l.trace)) ≡ sections l.trace)
