use Rattle.std.proofs.Common.{◌≡◌, ℕ, List, ap, arith, length, subst, sym}
use Rattle.mx_events.specs.declared.event.Event.{Event}
use Rattle.mx_cli.specs.Printing.{IsReport, Prints, sight}
use Rattle.mx_cli.proofs.FrameLemmas.{prints_as}
use Rattle.mx_events.specs.Arguments.{AreEventsWithin}
use Rattle.mx_driver.specs.Sinks.{report_by}
use Rattle.mx_count.specs.Printed.{IsCount, count_report, counts_by}
use Rattle.mx_count.proofs.PrintedLemmas.{is_count, no_count}
use Rattle.mx_count.proofs.count_command.CountCommand.run.Goals as goal

pub drive-requires : goal.drive-requires
drive-requires g c =
    let p = c.args.plan.now in
    subst (λ (es : List Event). AreEventsWithin (length p.nodes) (length p.registers) es) (sym c.as_slice.ensures.value) c.in-Ok.ensures.within

pub returns-in-Ok : goal.returns-in-Ok
returns-in-Ok g c =
    let p = c.args.plan.now in
    let text = c.args.text.now in
    let is_json = c.args.self.now.is_json in
    let es = c.as_slice.result.now in
    let old = sight g.O.Output c.args.out.now in
    let new = sight g.O.Output c.drive.new.out in
    let same : length es ≡ length c.in-Ok.events.items = ap (λ (l : List Event). length l) c.as_slice.ensures.value in
    let count : c.len.result ≡ length es = omega (arith, c.len.ensures, c.in-Ok.events.ok, same) in
    let prints = subst (λ (n : ℕ). Prints (IsReport (report_by (counts_by is_json p n) p p.shape es)) old new c.drive.result) count c.drive.ensures.prints in
    record {
      prints = prints_as (IsReport (count_report is_json p es)) (IsCount is_json p text) (is_count is_json p text c.in-Ok.events.items es c.in-Ok.ensures.gives c.as_slice.ensures.value)
          old new c.drive.result prints;
    }

pub returns-in-Err : goal.returns-in-Err
returns-in-Err g c = record {
  prints = no_count c.args.self.now.is_json c.args.plan.now c.args.text.now c.in-Err.fault (sight g.O.Output c.args.out.now) c.from.result c.in-Err.ensures.gives c.from.ensures;
}
