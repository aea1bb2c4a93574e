use Rattle.std.proofs.Common.{◌∙◌, refl, subst}
use Rattle.mx_cli.specs.Printing.{IsWhole, sight}
use Rattle.mx_cli.proofs.FrameLemmas.{whole_prints}
use Rattle.mx_plan.specs.Text.{Text}
use Rattle.mx_event_files.specs.Played.{IsEventFile}
use Rattle.mx_draw.specs.Drawn.{drawn_file}
use Rattle.mx_draw.proofs.draw_command.DrawCommand.run.Goals as goal

pub returns-in-Ok : goal.returns-in-Ok
returns-in-Ok g c =
    let run = c.args.self.now.0 in
    let p = c.args.plan.now in
    let file = subst (λ (text : Text). IsEventFile p text p.shape) c.in-Ok.ensures.drawn c.in-Ok.ensures.file in
    record {
      prints = whole_prints (λ r. IsEventFile p (drawn_file p run) p.shape × IsWhole (drawn_file p run) 0 r) c.as_bytes.result.now (drawn_file p run) 0 (sight g.O.Output c.args.out.now) (sight g.O.Output c.print.new.out)
          c.print.result (c.as_bytes.ensures.value ∙ c.in-Ok.ensures.drawn) (file, refl) c.print.ensures.prints;
    }
