use Rattle.std.proofs.Common.{◌≡◌, ◌++◌, List, length}
use Rattle.mx_journal.specs.declared.records.Record.{Record}
use Rattle.mx_journal.specs.Agreement.{AreAgreeing}
use Rattle.mx_journal.specs.Records.{above}
use Rattle.mx_merge.proofs.agreement.first_conflict.Given as goal

abbrev pub invariant-loop-entry : goal.invariant-loop-entry
invariant-loop-entry l =
    (done : List Record) × (done ++ above l.last l.other.records ≡ above 0 l.other.records) × AreAgreeing l.journal.records done

abbrev pub decreases-loop-entry : goal.decreases-loop-entry
decreases-loop-entry l = length (above l.last l.other.records)
