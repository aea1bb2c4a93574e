use Rattle.std.proofs.Common.{◌≡◌, ◌++◌, List, length}
use Rattle.mx_journal.specs.declared.records.Record.{Record}
use Rattle.mx_journal.specs.Records.{above}
use Rattle.mx_registers.specs.Based.{registers_from}
use Rattle.mx_registers.proofs.views.view.Given as goal

abbrev pub invariant-loop-entry : goal.invariant-loop-entry
invariant-loop-entry l =
    (done : List Record) × (l.view ≡ registers_from l.journal.base l.count done) × (done ++ above l.last l.journal.records ≡ above 0 l.journal.records)

abbrev pub decreases-loop-entry : goal.decreases-loop-entry
decreases-loop-entry l = length (above l.last l.journal.records)
