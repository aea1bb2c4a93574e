use Rattle.std.proofs.Common.{◌≡◌}
use Rattle.mx_knowledge.specs.Tables.{below, stamp_at}
use Rattle.mx_knowledge.proofs.tables.stamps_in.Given as goal

abbrev pub invariant-loop-i : goal.invariant-loop-i
invariant-loop-i l = l.items.items ≡ below (stamp_at l.stamps) l.i
