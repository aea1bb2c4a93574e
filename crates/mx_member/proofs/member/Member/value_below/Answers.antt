use Rattle.std.proofs.Common.{◌≡◌, ◌∙◌, ap, sym, arith}
use Rattle.mx_journal.specs.Records.{below}
use Rattle.mx_registers.specs.Based.{registers_from}
use Rattle.mx_registers.proofs.Applying.{below_all}
use Rattle.mx_member.specs.Member.{IsViewOf}
use Rattle.mx_member.specs.Steps.{register_below}
use Rattle.mx_member.proofs.Choosing.{register_shown}
use Rattle.mx_member.proofs.member.Member.value_below.Goals as goal

pub returns-then-top-number : goal.returns-then-top-number
unfolding IsViewOf
returns-then-top-number g c =
    let inside = c.self.inside in
    let earlier = below c.args.number inside.journal.records in
    let count = ap (λ m. m.setting.registers) c.self.view_is in
    let top = c.top.ensures.value in
    let shown : inside.shown ≡ registers_from inside.journal.base inside.registers earlier =
    c.self.invariant.5 ∙ ap (λ xs. registers_from inside.journal.base inside.registers xs) (sym (below_all c.args.number inside.journal.records (omega arith))) in
    c.unwrap_or.ensures
    ∙ register_shown inside.journal.base inside.registers c.args.register earlier inside.shown c.value.result shown (omega arith) c.value.ensures
    ∙ ap (λ m. (register_below c.args.register c.args.number m.journal).value) c.self.view_is

pub returns : goal.returns
returns g c =
    let inside = c.self.inside in
    let count = ap (λ m. m.setting.registers) c.self.view_is in
    c.unwrap_or-2.ensures
    ∙ register_shown inside.journal.base inside.registers c.args.register (below c.args.number inside.journal.records) c.view_below.result c.value-2.result c.view_below.ensures.value (omega arith) c.value-2.ensures
    ∙ ap (λ m. (register_below c.args.register c.args.number m.journal).value) c.self.view_is
