use Rattle.std.proofs.Common.{◌∙◌, ap, arith}
use Rattle.mx_member.proofs.member.Member.mine.Goals as goal

pub returns-clause-value : goal.returns-clause-value
returns-clause-value g c = c.mine.ensures.value ∙ ap (λ m. g.C.Exclusion.core.mine m.core) c.self.view_is

pub returns-clause-high : goal.returns-clause-high
returns-clause-high g c = omega (arith, c.mine.ensures.high)
