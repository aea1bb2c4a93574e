use Rattle.mx_nodelaws.specs.World.{AreSentBelow}
use Rattle.mx_ricart.specs.Step.{request_missing}
use Rattle.mx_ricart.proofs.ricart.Ricart.send_missing.Given as goal

abbrev pub invariant-loop-i : goal.invariant-loop-i
invariant-loop-i l = AreSentBelow (request_missing l.self) l.i l.out
