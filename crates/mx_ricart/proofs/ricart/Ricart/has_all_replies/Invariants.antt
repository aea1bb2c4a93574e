use Rattle.std.proofs.Common.{◌≡◌}
use Rattle.mx_nodelaws.specs.Tests.{all_below}
use Rattle.mx_ricart.specs.Step.{is_replied}
use Rattle.mx_ricart.proofs.ricart.Ricart.has_all_replies.Given as goal

abbrev pub invariant-loop-i : goal.invariant-loop-i
invariant-loop-i l = l.all ≡ all_below (is_replied l.self) l.i
