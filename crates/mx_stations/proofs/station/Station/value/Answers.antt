use Rattle.std.proofs.Common.{ap, ◌∙◌}
use Rattle.mx_registers.specs.Based.{registers_in}
use Rattle.mx_registers.specs.Registers.{value_in}
use Rattle.mx_stations.proofs.station.Station.value.Goals as goal

pub returns : goal.returns
returns g c = c.value.ensures ∙ ap (λ s. value_in c.args.register (registers_in s.me.member.setting.registers s.me.member.journal)) c.self.view_is
