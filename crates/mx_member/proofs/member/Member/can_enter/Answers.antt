use Rattle.std.proofs.Common.{◌∙◌, ap}
use Rattle.mx_member.proofs.member.Member.can_enter.Goals as goal

pub returns : goal.returns
returns g c = c.can_enter.ensures ∙ ap (λ m. g.C.Exclusion.core.can_enter m.core) c.self.view_is
