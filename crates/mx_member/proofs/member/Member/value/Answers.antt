use Rattle.std.proofs.Common.{◌∙◌, ap}
use Rattle.mx_registers.specs.Based.{registers_in}
use Rattle.mx_registers.specs.Registers.{value_in}
use Rattle.mx_member.specs.Member.{IsViewOf}
use Rattle.mx_member.proofs.member.Member.value.Goals as goal

pub returns : goal.returns
unfolding IsViewOf
returns g c =
    c.value.ensures
    ∙ ap (λ cells. value_in c.args.register cells) c.self.invariant.5
    ∙ ap (λ m. value_in c.args.register (registers_in m.setting.registers m.journal)) c.self.view_is
