use Rattle.std.proofs.Common.{rules, ◌≤◌, ◌++◌, length, subst, ap, sym, ◌∙◌}
use Rattle.mx_member.specs.Steps.{base_to, records_to}
use Rattle.mx_member.proofs.Sending.{base_short}
use Rattle.mx_member.proofs.member.Member.answer_want.Goals as goal

pub send_records-requires : goal.send_records-requires
send_records-requires g c =
    (search rules, subst (λ l. length l ≤ 1) (sym c.send_base.ensures) (base_short _ c.args.from c.args.ranges.now c.self.inside.journal))

pub returns : goal.returns
returns g c = rw (← c.self.view_is)
    (c.send_records.ensures
    ∙ ap (λ l. l ++ records_to c.args.from c.answer.result.items) c.send_base.ensures
    ∙ ap (λ rs. base_to c.args.from c.args.ranges.now c.self.inside.journal ++ records_to c.args.from rs) c.answer.ensures.value)
