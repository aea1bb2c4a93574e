use Rattle.std.proofs.Common.{◌∙◌, ap}
use Rattle.mx_member.proofs.member.Member.phase.Goals as goal

pub returns-clause-value : goal.returns-clause-value
returns-clause-value g c = c.phase.ensures.value ∙ ap (λ m. g.C.Exclusion.core.phase m.core) c.self.view_is
