use Rattle.std.proofs.Common.{◌∙◌, ◌++◌, ap, refl}
use Rattle.mx_cli.specs.Printing.{IsWhole, sight}
use Rattle.mx_cli.proofs.FrameLemmas.{whole_prints}
use Rattle.mx_driver.specs.Commands.{check_text}
use Rattle.mx_driver.proofs.check_plan.CheckCommand.run.Goals as goal

pub returns-in-Ok : goal.returns-in-Ok
returns-in-Ok g c =
    let text = check_text c.args.self.now.has_asks c.args.self.now.is_json c.args.plan.now in
    let same = c.as_bytes.ensures.value ∙ c.in-Ok.ensures ∙ ap (λ l. l ++ text) c.new-text.ensures.bytes in
    record { prints = whole_prints (IsWhole text 0) c.as_bytes.result.now text 0 (sight g.O.Output c.args.out.now) (sight g.O.Output c.print.new.out) c.print.result same refl c.print.ensures.prints }
