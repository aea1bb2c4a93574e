use Rattle.std.proofs.Common.{◌∙◌}
use Rattle.std.specs.Prelude.{codes}
use Rattle.mx_plan.specs.Text.{Text}
use Rattle.mx_cli.specs.Reports.{seen}
use Rattle.mx_cli.proofs.ClosedLemmas.{closed_done, closed_passed, closed_status}
use Rattle.mx_play.proofs.PlayedLemmas.{by_keeps}
use Rattle.mx_play.proofs.ReportLemmas.{closed_told}
use Rattle.mx_play.proofs.StopLemmas.{closed_well}
use Rattle.mx_play.proofs.command.play_and_close.Goals as goal

pub returns : goal.returns
returns g c =
    let p = c.args.start.now.plan in
    let names : Text × Text = (c.args.plan.now, codes "-") in
    let t = g.O.Output.takes_all c.run_by_plan-ended.new.out in
    let u = g.E.Output.takes_all c.run_by_plan-ended.new.err in
    let old = seen g.O.Output g.E.Output c.run_by_plan-ended.new.out c.run_by_plan-ended.new.err in
    let new = seen g.O.Output g.E.Output c.close.new.out c.close.new.err in
    let run = c.run_by_plan-ended.result in
    let closes = c.close.ensures.closes in
    record {
      played = λ zero. by_keeps p c.args.start.now.text.items (seen g.O.Output g.E.Output c.args.out.now c.args.err.now) old new (g.W.Store.stored c.args.store.now) (g.W.Store.stored c.run_by_plan-ended.new.store) (g.L.Lines.rest c.args.lines.now) p.shape
          (closed_done names t u old new c.close.result run c.run_by_plan-ended.ensures.played closes zero) closes.0 (closed_told names t u old new c.close.result run closes zero);
      passed = λ zero. closed_passed names t u old new c.close.result run closes zero;
      stops = λ takes_out takes_err readable one.
          closed_well names t u old new c.close.result (c.run_by_plan-ended.ensures.stays.0 ∙ takes_out) run (c.run_by_plan-ended.ensures.stops takes_out takes_err readable) c.run_by_plan-ended.ensures.zero closes one;
      status = closed_status names t u old new c.close.result run c.run_by_plan-ended.ensures.zero closes;
    }
