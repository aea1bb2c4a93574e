use Rattle.std.proofs.Common.{◌≡◌}
use Rattle.mx_scripts.specs.Links.{with_below}
use Rattle.mx_scripts.proofs.links.Links.set_node.Given as goal

abbrev pub invariant-loop-other : goal.invariant-loop-other
invariant-loop-other l = l.self ≡ with_below l.other l.one l.is_cut l.initial.self
