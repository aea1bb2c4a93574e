use Rattle.mx_nodelaws.specs.World.{AreSentBelow}
use Rattle.mx_ricart.specs.Step.{request_others}
use Rattle.mx_ricart.proofs.ricart.Ricart.send_requests.Given as goal

abbrev pub invariant-loop-i : goal.invariant-loop-i
invariant-loop-i l = AreSentBelow (request_others l.self) l.i l.out
