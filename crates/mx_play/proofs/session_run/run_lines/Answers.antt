use Rattle.std.proofs.Common.{◌∙◌, List, ℕ, refl, rules, subst, sym}
use Rattle.mx_format.specs.LetterTexts.{letter_text}
use Rattle.mx_cli.specs.Reports.{seen}
use Rattle.mx_play.specs.Commands.{ReadsInput}
use Rattle.mx_play.proofs.PlaysLemmas.{run_ended, run_out, running_first, running_next}
use Rattle.mx_play.proofs.StopLemmas.{left_bound, left_first, left_next, numbers_last, of_each, passed_on, reads_on, stopped_left}
use Rattle.mx_play.proofs.session_run.run_lines.Goals as goal

pub loop-number-init : goal.loop-number-init
loop-number-init g c =
    let s = c.args.setting.now in
    record {
      run = running_first g.C.Exclusion.core (letter_text g.C.Msg.Letter.parts) g.C.Knowledge.knows s.plan.now s.shape.now c.args.first (g.L.Lines.rest c.args.lines.now) c.args.session.now (seen g.O.Output g.E.Output c.args.out.now c.args.err.now)
          (g.W.Store.stored c.args.store.now);
      is = c.requires;
      left = left_first c.args.first (g.L.Lines.readable c.args.lines.now);
      out_stays = refl;
      err_stays = refl;
    }

pub loop-number-preserved : goal.loop-number-preserved
loop-number-preserved g c =
    let s = c.args.setting.now in
    let l = c.loop-number in
    let rest = g.L.Lines.rest l.lines in
    let left = g.L.Lines.rest c.read_input.new.lines in
    let reads = subst (λ (bytes : List ℕ). ReadsInput s.plan.now rest c.in_ok-input.input bytes left) (sym c.as_slice.ensures.value) c.in_ok-input.ensures.reads in
    record {
      run = running_next g.C.Exclusion.core (letter_text g.C.Msg.Letter.parts) g.C.Knowledge.knows s.plan.now s.shape.now c.args.first l.number (g.L.Lines.rest c.args.lines.now) rest left c.in_ok-input.input c.as_slice.result.now
          c.args.session.now l.session (seen g.O.Output g.E.Output c.args.out.now c.args.err.now) (seen g.O.Output g.E.Output l.out l.err) (seen g.O.Output g.E.Output l.out c.read_input.new.err)
          (g.W.Store.stored c.args.store.now) (g.W.Store.stored l.store)
          reads l.invariant.run refl c.in_ok-input.ensures.asks c.execute_input.new.session (seen g.O.Output g.E.Output c.print.new.out c.report.new.err) (g.W.Store.stored c.execute_input.new.store) c.in_ok-turn.turn.fault _ c.in_default.not-Eof
          c.in_ok-turn.ensures.does c.in_ok-print.ensures.printed c.in_ok-report.ensures.reports (sym c.is_end.ensures ∙ c.if-is_end.false);
      is = c.in_ok-turn.ensures.is;
      left = left_next c.args.first l.number (g.L.Lines.readable c.args.lines.now) (g.L.Lines.readable l.lines) (g.L.Lines.readable c.read_input.new.lines) c.in_ok-input.input c.in_default.not-Eof l.invariant.left c.in_ok-input.ensures.left;
      out_stays = c.print.ensures.stays ∙ l.invariant.out_stays;
      err_stays = c.report.ensures.stays ∙ c.read_input.ensures.stays ∙ l.invariant.err_stays;
    }

pub returns-then-is_end-clause-run : goal.returns-then-is_end-clause-run
returns-then-is_end-clause-run g c =
    let s = c.args.setting.now in
    let l = c.loop-number in
    let rest = g.L.Lines.rest l.lines in
    let left = g.L.Lines.rest c.read_input.new.lines in
    let reads = subst (λ (bytes : List ℕ). ReadsInput s.plan.now rest c.in_ok-input.input bytes left) (sym c.as_slice.ensures.value) c.in_ok-input.ensures.reads in
    run_ended g.C.Exclusion.core (letter_text g.C.Msg.Letter.parts) g.C.Knowledge.knows s.plan.now s.shape.now c.args.first l.number (g.L.Lines.rest c.args.lines.now) rest left c.in_ok-input.input c.as_slice.result.now
    c.args.session.now l.session (seen g.O.Output g.E.Output c.args.out.now c.args.err.now) (seen g.O.Output g.E.Output l.out l.err) (seen g.O.Output g.E.Output l.out c.read_input.new.err)
    (g.W.Store.stored c.args.store.now) (g.W.Store.stored l.store)
    reads l.invariant.run refl c.in_ok-input.ensures.asks c.execute_input.new.session (seen g.O.Output g.E.Output c.print.new.out c.report.new.err) (g.W.Store.stored c.execute_input.new.store) c.in_ok-turn.turn.fault _ c.in_default.not-Eof
    c.in_ok-turn.ensures.does c.in_ok-print.ensures.printed c.in_ok-report.ensures.reports (sym c.is_end.ensures ∙ c.if-is_end.true)

pub returns-in-Eof-clause-run : goal.returns-in-Eof-clause-run
returns-in-Eof-clause-run g c =
    let s = c.args.setting.now in
    let l = c.loop-number in
    run_out g.C.Exclusion.core (letter_text g.C.Msg.Letter.parts) g.C.Knowledge.knows s.plan.now s.shape.now c.args.first l.number (g.L.Lines.rest c.args.lines.now) (g.L.Lines.rest l.lines) (g.L.Lines.rest c.read_input.new.lines)
    c.in_ok-input.input c.read_input.new.line.items c.args.session.now l.session (seen g.O.Output g.E.Output c.args.out.now c.args.err.now) (seen g.O.Output g.E.Output l.out l.err) (seen g.O.Output g.E.Output l.out c.read_input.new.err)
    (g.W.Store.stored c.args.store.now) (g.W.Store.stored l.store)
    c.in_ok-input.ensures.reads l.invariant.run refl c.in_ok-input.ensures.asks c.in-Eof.is

-- ---- what the outputs take does not change

pub returns-in_err-input-clause-stays : goal.returns-in_err-input-clause-stays
returns-in_err-input-clause-stays g c = let i = c.loop-number.invariant in (i.out_stays, c.read_input.ensures.stays ∙ i.err_stays)

pub returns-in-Eof-clause-stays : goal.returns-in-Eof-clause-stays
returns-in-Eof-clause-stays g c = let i = c.loop-number.invariant in (i.out_stays, c.read_input.ensures.stays ∙ i.err_stays)

pub returns-in_err-turn-clause-stays : goal.returns-in_err-turn-clause-stays
returns-in_err-turn-clause-stays g c = let i = c.loop-number.invariant in (i.out_stays, c.read_input.ensures.stays ∙ i.err_stays)

pub returns-in_err-print-clause-stays : goal.returns-in_err-print-clause-stays
returns-in_err-print-clause-stays g c = let i = c.loop-number.invariant in (c.print.ensures.stays ∙ i.out_stays, c.read_input.ensures.stays ∙ i.err_stays)

pub returns-in_err-report-clause-stays : goal.returns-in_err-report-clause-stays
returns-in_err-report-clause-stays g c = let i = c.loop-number.invariant in (c.print.ensures.stays ∙ i.out_stays, c.report.ensures.stays ∙ c.read_input.ensures.stays ∙ i.err_stays)

pub returns-then-is_end-clause-stays : goal.returns-then-is_end-clause-stays
returns-then-is_end-clause-stays g c = let i = c.loop-number.invariant in (c.print.ensures.stays ∙ i.out_stays, c.report.ensures.stays ∙ c.read_input.ensures.stays ∙ i.err_stays)

pub returns-clause-stays : goal.returns-clause-stays
returns-clause-stays g c = let i = c.loop-number.invariant in (i.out_stays, i.err_stays)

-- ---- why it stops

pub returns-in_err-input-clause-stops : goal.returns-in_err-input-clause-stops
returns-in_err-input-clause-stops g c =
    let l = c.loop-number in
    λ out err few. passed_on c.from_residual.result c.in_err-input.field-0.0 c.from_residual.ensures.1
    (reads_on c.args.first l.number (g.L.Lines.readable c.args.lines.now) (g.L.Lines.readable l.lines) l.invariant.left few c.in_err-input.ensures.stops (l.invariant.err_stays ∙ err))

pub returns-in_err-print-clause-stops : goal.returns-in_err-print-clause-stops
returns-in_err-print-clause-stops g c = λ out err few. passed_on c.from_residual-in_err-print.result c.in_err-print.field-0.0 c.from_residual-in_err-print.ensures.1 (c.in_err-print.ensures.stops (c.loop-number.invariant.out_stays ∙ out))

pub returns-in_err-report-clause-stops : goal.returns-in_err-report-clause-stops
returns-in_err-report-clause-stops g c = λ out err few. passed_on c.from_residual-in_err-report.result c.in_err-report.field-0.0 c.from_residual-in_err-report.ensures.1 (c.in_err-report.ensures.stops (c.read_input.ensures.stays ∙ c.loop-number.invariant.err_stays ∙ err))

pub returns-clause-stops : goal.returns-clause-stops
returns-clause-stops g c =
    let l = c.loop-number in
    λ out err few. absurd (numbers_last c.args.first l.number (g.L.Lines.readable c.args.lines.now) (g.L.Lines.readable l.lines) l.invariant.left few c.loop-number-test.false)

pub returns-in-Eof-clause-left : goal.returns-in-Eof-clause-left
returns-in-Eof-clause-left g c =
    let l = c.loop-number in
    left_bound c.args.first l.number (g.L.Lines.readable c.args.lines.now) (g.L.Lines.readable l.lines) l.invariant.left

pub returns-in_err-input-clause-left : goal.returns-in_err-input-clause-left
returns-in_err-input-clause-left g c = stopped_left _ (g.L.Lines.readable c.args.lines.now) c.args.first c.from_residual.result c.from_residual.ensures.1

pub returns-in_err-turn-clause-left : goal.returns-in_err-turn-clause-left
returns-in_err-turn-clause-left g c = stopped_left _ (g.L.Lines.readable c.args.lines.now) c.args.first c.from_residual-in_err-turn.result c.from_residual-in_err-turn.ensures.1

pub returns-in_err-print-clause-left : goal.returns-in_err-print-clause-left
returns-in_err-print-clause-left g c = stopped_left _ (g.L.Lines.readable c.args.lines.now) c.args.first c.from_residual-in_err-print.result c.from_residual-in_err-print.ensures.1

pub returns-in_err-report-clause-left : goal.returns-in_err-report-clause-left
returns-in_err-report-clause-left g c = stopped_left _ (g.L.Lines.readable c.args.lines.now) c.args.first c.from_residual-in_err-report.result c.from_residual-in_err-report.ensures.1

pub returns-then-is_end-clause-left : goal.returns-then-is_end-clause-left
returns-then-is_end-clause-left g c = of_each (g.L.Lines.readable c.args.lines.now) (λ n. tt)

pub returns-clause-left : goal.returns-clause-left
returns-clause-left g c = of_each (g.L.Lines.readable c.args.lines.now) (λ n. tt)

pub report-requires : goal.report-requires
report-requires g c = first_of (search c.requires-raw, search rules, search (rules, c.requires-raw))
