use Rattle.std.proofs.Common.{◌≡◌, drop}
use Rattle.mx_journal.proofs.runs.drop_first.Given as goal

abbrev pub invariant-loop : goal.invariant-loop
invariant-loop l = l.records.items ≡ drop l.counter l.fn.records.items
