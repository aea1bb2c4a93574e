use Rattle.mx_cli.specs.Printing.{sight}
use Rattle.mx_cli.specs.Requests.{part_of}
use Rattle.mx_cli.proofs.FrameLemmas.{prints_as}
use Rattle.mx_driver.specs.Jobs.{run_by}
use Rattle.mx_picture.specs.Pictures.{DrawsEvents, IsRunDrawn}
use Rattle.mx_picture.proofs.PictureLemmas.{not_found, part_drawn, part_unknown}
use Rattle.mx_picture.proofs.command.draw.Goals as goal

pub returns-in-Ok : goal.returns-in-Ok
returns-in-Ok g c =
    let p = c.args.plan.now in
    let es = c.args.events.now in
    let part = part_of c.args.picture.now.part in
    record {
      prints = prints_as (DrawsEvents p es (run_by p p.shape es).end) (IsRunDrawn part p es) (part_drawn part p es c.args.picture.now.only_letters c.in-Ok.part c.in-Ok.ensures)
          (sight g.O.Output c.args.out.now) (sight g.O.Output c.print_picture.new.out) c.print_picture.result c.print_picture.ensures.prints;
    }

pub returns-in-Err : goal.returns-in-Err
returns-in-Err g c =
    let p = c.args.plan.now in
    let es = c.args.events.now in
    let part = part_of c.args.picture.now.part in
    record { prints = not_found (IsRunDrawn part p es) p part.node (sight g.O.Output c.args.out.now) (part_unknown part p es) c.in-Err.unknown c.in-Err.ensures }
