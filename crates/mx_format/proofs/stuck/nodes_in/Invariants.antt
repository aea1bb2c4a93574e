use Rattle.std.proofs.Common.{◌≡◌, ◌++◌, drop}
use Rattle.mx_format.specs.StuckTexts.{nodes_in}
use Rattle.mx_format.proofs.stuck.nodes_in.Given as goal

abbrev pub invariant-loop-item : goal.invariant-loop-item
invariant-loop-item l = l.nodes.items ++ nodes_in (drop l.item-index l.items) ≡ nodes_in l.items
