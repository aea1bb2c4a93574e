use Rattle.std.proofs.Common.{◌≡◌}
use Rattle.mx_stamps.specs.Lists.{each_below}
use Rattle.mx_member.specs.Steps.{start_of}
use Rattle.mx_network.proofs.parts.start_members.Given as goal

abbrev pub invariant-loop-i : goal.invariant-loop-i
invariant-loop-i g l = l.members.items ≡ each_below (λ k. start_of g.C.Exclusion.core l.shape k l.origin l.limit l.registers) l.i
