use Rattle.mx_scripts.proofs.PartitionLemmas.{NoneBelow}
use Rattle.mx_scripts.proofs.links.Links.first_across.Given as goal

abbrev pub invariant-loop-link : goal.invariant-loop-link
invariant-loop-link l = NoneBelow l.sides l.self l.link
