use Rattle.std.proofs.Common.{rules}
use Rattle.mx_member.proofs.member.Member.restart.Goals as goal

pub invariant_of-self : goal.invariant_of-self
invariant_of-self g c = let was = c.self.invariant in (was.0, was.1, was.2, (search rules), (search rules), was.5)

pub returns : goal.returns
returns g c = search rules
