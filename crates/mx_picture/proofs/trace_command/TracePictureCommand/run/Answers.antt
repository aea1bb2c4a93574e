use Rattle.mx_cli.specs.Printing.{sight}
use Rattle.mx_cli.specs.Requests.{part_of}
use Rattle.mx_cli.proofs.FrameLemmas.{prints_as}
use Rattle.mx_picture.specs.TracePictures.{IsTraceDrawn, IsTracePictured}
use Rattle.mx_picture.proofs.PictureLemmas.{not_found}
use Rattle.mx_picture.proofs.TraceLemmas.{known, unknown}
use Rattle.mx_picture.proofs.trace_command.TracePictureCommand.run.Goals as goal

pub returns-in-Ok : goal.returns-in-Ok
returns-in-Ok g c =
    let p = c.args.plan.now in
    let text = c.args.text.now in
    let part = part_of c.args.self.now.0 in
    record {
      prints = prints_as (IsTraceDrawn p text) (IsTracePictured part p text) (known p text part c.in-Ok.part c.in-Ok.ensures)
          (sight g.O.Output c.args.out.now) (sight g.O.Output c.draw_text.new.out) c.draw_text.result c.draw_text.ensures.prints;
    }

pub returns-in-Err : goal.returns-in-Err
returns-in-Err g c =
    let p = c.args.plan.now in
    let part = part_of c.args.self.now.0 in
    record { prints = not_found (IsTracePictured part p c.args.text.now) p part.node (sight g.O.Output c.args.out.now) (unknown p c.args.text.now part) c.in-Err.stop c.in-Err.ensures }
