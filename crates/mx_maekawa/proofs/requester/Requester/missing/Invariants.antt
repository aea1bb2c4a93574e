use Rattle.std.proofs.Common.{◌≡◌}
use Rattle.mx_knowledge.specs.Tables.{below}
use Rattle.mx_maekawa.specs.Knows.{missing_at}
use Rattle.mx_maekawa.proofs.requester.Requester.missing.Given as goal

abbrev pub invariant-loop-i : goal.invariant-loop-i
invariant-loop-i l = l.items.items ≡ below (missing_at l.self) l.i
