use Rattle.std.proofs.Common.{◌≡◌, ◌++◌, List, length}
use Rattle.mx_journal.specs.declared.records.Record.{Record}
use Rattle.mx_journal.specs.Records.{above, below}
use Rattle.mx_registers.specs.Based.{registers_from}
use Rattle.mx_registers.proofs.views.view_below.Given as goal

abbrev pub invariant-loop-entry : goal.invariant-loop-entry
invariant-loop-entry l =
    (done : List Record) × (l.earlier ≡ registers_from l.journal.base l.count done) × (done ++ below l.number (above l.last l.journal.records) ≡ below l.number (above 0 l.journal.records))

abbrev pub decreases-loop-entry : goal.decreases-loop-entry
decreases-loop-entry l = length (above l.last l.journal.records)
