use Rattle.std.proofs.Common.{◌≡◌}
use Rattle.mx_knowledge.specs.Tables.{below, number_at}
use Rattle.mx_knowledge.proofs.tables.numbers_in.Given as goal

abbrev pub invariant-loop-i : goal.invariant-loop-i
invariant-loop-i l = l.items.items ≡ below (number_at l.numbers) l.i
