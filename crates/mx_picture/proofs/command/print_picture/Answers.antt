use Rattle.std.proofs.Common.{◌≡◌, Err, string_bytes}
use Rattle.mx_cli.specs.Printing.{sight}
use Rattle.mx_cli.specs.declared.stop.Stop.TheVariants as stop
use Rattle.mx_cli.proofs.FrameLemmas.{memory_prints, whole_prints}
use Rattle.mx_cli.proofs.ReadLemmas.{err_is}
use Rattle.mx_driver.specs.Jobs.{run_by}
use Rattle.mx_picture.specs.Pictures.{DrawsEvents}
use Rattle.mx_picture.proofs.PictureLemmas.{run_drawn, run_stops}
use Rattle.mx_picture.proofs.command.print_picture.Goals as goal

pub returns-in_err-drawing : goal.returns-in_err-drawing
returns-in_err-drawing g c =
    let is : c.from_residual.result ≡ Err stop.Memory = err_is c.from_residual.result stop.Memory c.from_residual.ensures.1 in
    record { prints = rw is (memory_prints _ (sight g.O.Output c.args.out.now)) }

pub returns-in_err-observe : goal.returns-in_err-observe
returns-in_err-observe g c =
    let p = c.args.plan.now in
    let es = c.args.events.now in
    let s = c.in_err-observe.field-0.0 in
    let is : c.from_residual-in_err-observe.result ≡ Err s = err_is c.from_residual-in_err-observe.result s c.from_residual-in_err-observe.ensures.1 in
    record { prints = rw is (run_stops p es (sight g.O.Output c.args.out.now) (run_by p p.shape es) s c.in_err-observe.ensures.prints) }

pub returns-in_err-page : goal.returns-in_err-page
returns-in_err-page g c =
    let is : c.from_residual-in_err-page.result ≡ Err stop.Memory = err_is c.from_residual-in_err-page.result stop.Memory c.from_residual-in_err-page.ensures.1 in
    record { prints = rw is (memory_prints _ (sight g.O.Output c.args.out.now)) }

pub returns : goal.returns
returns g c =
    let p = c.args.plan.now in
    let es = c.args.events.now in
    let r = run_by p p.shape es in
    let picture = string_bytes c.in_ok-page.page in
    record {
      prints = whole_prints (DrawsEvents p es r.end) c.as_bytes.result.now picture 0 (sight g.O.Output c.args.out.now) (sight g.O.Output c.print.new.out) c.print.result c.as_bytes.ensures.value
          (run_drawn p es r c.in_ok-observe.field-0 picture c.in_ok-observe.ensures.prints c.in_ok-page.ensures) c.print.ensures.prints;
    }
