use Rattle.std.proofs.Common.{rules}
use Rattle.std.proofs.lemmas.Result.{IfOk-from_err}
use Rattle.mx_network.proofs.Happening.{same_parts}
use Rattle.mx_network.proofs.Keeps.{started_parts}
use Rattle.mx_network.proofs.cluster.Cluster.start.Goals as goal

pub invariant_of-result : goal.invariant_of-result
invariant_of-result g c = (
  c.new-3.ensures,
  started_parts g.C.Exclusion.core g.C.Exclusion.IsShape g.C.Exclusion.Good g.met.C.Exclusion.phases g.met.C.Exclusion.laws
      c.args.shape.now c.args.origin c.args.limit c.args.registers _ _ _ c.in_ok-start_members.ensures.members c.new.ensures c.new-2.ensures.items c.in_ok-start_members.ensures.valid c.in_ok-start_members.ensures.in_range c.requires.low c.requires.high c.requires.few,
)

pub start_members-requires : goal.start_members-requires
start_members-requires g c = (search rules, (c.requires.low, (c.requires.high, (c.requires.some, c.requires.few))))

pub returns-in_err-start_members : goal.returns-in_err-start_members
returns-in_err-start_members g c = IfOk-from_err _ _ c.from_residual.ensures.0

pub new-requires : goal.new-requires
new-requires g c = search rules

pub new-requires-2 : goal.new-requires-2
new-requires-2 g c = search rules

pub new-requires-3 : goal.new-requires-3
new-requires-3 g c = search rules

pub returns : goal.returns
returns g c = same_parts _ _ _ _ _ _ c.in_ok-start_members.ensures.members c.new.ensures c.new-2.ensures.items
