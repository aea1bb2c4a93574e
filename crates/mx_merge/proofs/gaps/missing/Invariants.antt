use Rattle.std.proofs.Common.{suc, ◌≡◌, ◌++◌, ◌-◌, take}
use Rattle.mx_journal.specs.Records.{Ascending, above}
use Rattle.mx_merge.specs.Missing.{gaps_above, gaps_in}
use Rattle.mx_merge.proofs.gaps.missing.Given as goal

abbrev pub invariant-loop-entry : goal.invariant-loop-entry
invariant-loop-entry l =
    Ascending (suc l.journal.base.upto) l.journal.records → take 8 (l.gaps.items ++ gaps_above l.last l.limit (above l.last l.journal.records)) ≡ take 8 (gaps_in l.limit l.journal)

abbrev pub decreases-loop-entry : goal.decreases-loop-entry
decreases-loop-entry l = l.limit - l.last
