use Rattle.mx_cli.specs.Printing.{IsReport, sight}
use Rattle.mx_cli.specs.Requests.{view_of}
use Rattle.mx_cli.proofs.FrameLemmas.{prints_as}
use Rattle.mx_driver.specs.Shown.{view_by}
use Rattle.mx_driver.specs.Viewed.{IsShown, view_on}
use Rattle.mx_driver.proofs.ViewedLemmas.{is_shown, not_found}
use Rattle.mx_driver.proofs.replays.show.Goals as goal

pub returns-in-Ok : goal.returns-in-Ok
returns-in-Ok g c =
    let p = c.args.plan.now in
    let es = c.args.events.now in
    let options = view_of c.args.options.now in
    let shown = view_by p (view_on options c.in-Ok.node) p.shape es in
    record {
      prints = prints_as (IsReport shown) (IsShown options p es) (is_shown options p es c.in-Ok.node c.in-Ok.ensures) (sight g.O.Output c.args.out.now) (sight g.O.Output c.drive.new.out) c.drive.result c.drive.ensures.prints;
    }

pub returns-in-Err : goal.returns-in-Err
returns-in-Err g c = record {
  prints = not_found (view_of c.args.options.now) c.args.plan.now c.args.events.now (sight g.O.Output c.args.out.now) c.in-Err.stop c.in-Err.ensures;
}
