use Rattle.mx_nodelaws.specs.World.{AreSentBelow}
use Rattle.mx_ricart.specs.Step.{reply_deferred}
use Rattle.mx_ricart.proofs.ricart.Ricart.send_replies.Given as goal

abbrev pub invariant-loop-i : goal.invariant-loop-i
invariant-loop-i l = AreSentBelow (reply_deferred l.self) l.i l.out
