use Rattle.std.proofs.Common.{rules}
use Rattle.mx_ricart.proofs.ricart.Ricart.take_reply.Goals as goal

pub returns-then-not-self-index : goal.returns-then-not-self-index
returns-then-not-self-index c = search rules
