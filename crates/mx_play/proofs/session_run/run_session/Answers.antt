use Rattle.std.proofs.Common.{◌∙◌, arith, length, refl, rules}
use Rattle.mx_cli.specs.Reports.{seen}
use Rattle.mx_format.specs.LetterTexts.{letter_text}
use Rattle.mx_play.proofs.PlaysLemmas.{whole_on_ok, rest_on_ok}
use Rattle.mx_play.proofs.SessionLemmas.{session_start}
use Rattle.mx_play.proofs.StopLemmas.{passed_on, rest_numbers}
use Rattle.mx_play.proofs.session_run.run_session.Goals as goal

pub run_lines-requires : goal.run_lines-requires
run_lines-requires g c =
    let s = c.args.setting.now in
    (first_of (search c.requires-raw, search rules, search (rules, c.requires-raw)), session_start g.C.Exclusion.core s.plan.now s.shape.now c.args.session.now c.requires.start c.requires.count)

pub finish-requires : goal.finish-requires
finish-requires g c = (first_of (search c.requires-raw, search rules, search (rules, c.requires-raw)), c.in_ok-run_lines-in-Some.ensures.is.members)

pub finish-requires-in-None : goal.finish-requires-in-None
finish-requires-in-None g c = (first_of (search c.requires-raw, search rules, search (rules, c.requires-raw)), c.in_ok-number.ensures.is.members)

pub returns-in-None-clause-played : goal.returns-in-None-clause-played
returns-in-None-clause-played g c =
    let s = c.args.setting.now in
    whole_on_ok g.C.Exclusion.core (letter_text g.C.Msg.Letter.parts) g.C.Knowledge.knows s.plan.now s.shape.now c.args.script.now (g.L.Lines.rest c.args.lines.now)
    c.args.session.now c.run_lines.new.session (seen g.O.Output g.E.Output c.args.out.now c.args.err.now) (seen g.O.Output g.E.Output c.run_lines.new.out c.run_lines.new.err)
    (seen g.O.Output g.E.Output c.finish-in-None.new.out c.run_lines.new.err) (g.W.Store.stored c.args.store.now) (g.W.Store.stored c.run_lines.new.store) c.requires.start c.in_ok-number.ensures.is refl c.finish-in-None.result c.finish-in-None.ensures.closes
    (rw c.in-None.is at c.in_ok-number.ensures.run)

pub returns-in_ok-run_lines-in-Some-clause-played :
    goal.returns-in_ok-run_lines-in-Some-clause-played
returns-in_ok-run_lines-in-Some-clause-played g c =
    let s = c.args.setting.now in
    rest_on_ok g.C.Exclusion.core (letter_text g.C.Msg.Letter.parts) g.C.Knowledge.knows s.plan.now s.shape.now c.args.script.now (g.L.Lines.rest c.args.lines.now)
    c.args.session.now c.run_lines-in-Some.new.session (seen g.O.Output g.E.Output c.args.out.now c.args.err.now) (seen g.O.Output g.E.Output c.run_lines-in-Some.new.out c.run_lines-in-Some.new.err)
    (seen g.O.Output g.E.Output c.finish.new.out c.run_lines-in-Some.new.err) (g.W.Store.stored c.args.store.now) (g.W.Store.stored c.run_lines-in-Some.new.store) c.requires.start c.in_ok-run_lines-in-Some.ensures.is refl c.finish.result c.finish.ensures.closes
    c.in-Some.number c.in_ok-run_lines-in-Some.field-0 c.run_lines.new.session (seen g.O.Output g.E.Output c.run_lines.new.out c.run_lines.new.err) (seen g.O.Output g.E.Output c.run_lines.new.out c.greet.new.err) (g.W.Store.stored c.run_lines.new.store)
    (rw c.in-Some.is at c.in_ok-number.ensures.run) refl c.in_ok-greet-in-Some.ensures.asks c.in_ok-run_lines-in-Some.ensures.run

pub returns-in_err-run_lines-in-Some-clause-stops :
    goal.returns-in_err-run_lines-in-Some-clause-stops
returns-in_err-run_lines-in-Some-clause-stops g c = λ out err few.
    let fits = rest_numbers (length c.args.script.now) c.in-Some.number (g.L.Lines.readable c.args.lines.now) (omega arith) (rw c.in-Some.is at c.in_ok-number.ensures.left) few in
    passed_on c.from_residual-in_err-run_lines-in-Some.result c.in_err-run_lines-in-Some.field-0.0 c.from_residual-in_err-run_lines-in-Some.ensures.1
    (c.in_err-run_lines-in-Some.ensures.stops (c.run_lines.ensures.stays.0 ∙ out) (c.greet.ensures.stays ∙ c.run_lines.ensures.stays.1 ∙ err) fits)
