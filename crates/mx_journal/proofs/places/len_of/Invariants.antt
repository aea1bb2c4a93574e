use Rattle.std.proofs.Common.{◌≡◌, length, take}
use Rattle.mx_journal.specs.Runs.{flatten}
use Rattle.mx_journal.proofs.places.len_of.Given as goal

abbrev pub invariant-loop-run : goal.invariant-loop-run
invariant-loop-run l = l.len ≡ length (flatten (take l.run-index l.runs))
