use Rattle.std.proofs.Common.{◌≡◌, ◌∙◌, false, string_bytes, sym}
use Rattle.mx_cli.specs.Printing.{sight}
use Rattle.mx_cli.proofs.FrameLemmas.{line_prints}
use Rattle.mx_scripts.specs.Failures.{script_line}
use Rattle.mx_shown_scripts.specs.ShownScripts.{shows_asides}
use Rattle.mx_shown_scripts.proofs.ShownLemmas.{lacks_all, line_alone, line_ended, line_stopped}
use Rattle.mx_shown_scripts.proofs.replay_script.show_refused.Goals as goal

pub returns-then-not-shows_asides : goal.returns-then-not-shows_asides
returns-then-not-shows_asides g c =
    let p = c.args.showing.now.plan.now in
    let view = c.args.showing.now.view.now in
    let line = c.args.line in
    let hidden : shows_asides view ≡ false = sym c.shows_asides.ensures ∙ c.if-not-shows_asides.true in
    record {
      prints = λ last texts shows.
          line_prints _ (script_line line.number line.fault (string_bytes line.message)) (sight g.O.Output c.args.out.now) c.stop_with.result
          (line_alone g.C.Exclusion.core g.C.Msg.Letter.parts p view g.C.Knowledge.knows c.args.start.now last texts line hidden) c.stop_with.ensures;
    }

pub returns-in_err-add_refused : goal.returns-in_err-add_refused
returns-in_err-add_refused g c = record { prints = λ last texts shows. lacks_all _ (sight g.O.Output c.args.out.now) c.from_residual.result c.from_residual.ensures.1 }

pub returns-in_err-print : goal.returns-in_err-print
returns-in_err-print g c =
    let start = c.args.start.now in
    record {
      prints = λ last texts shows.
          line_stopped g.C.Exclusion.core g.C.Msg.Letter.parts c.args.showing.now.plan.now c.args.showing.now.view.now g.C.Knowledge.knows start last texts c.args.line _ _ c.as_str.result.now
          (sym c.shows_asides.ensures ∙ c.if-not-shows_asides.false) c.new-fault.ensures.bytes c.as_str.ensures.value c.in_ok-add_refused.ensures (sight g.O.Output c.args.out.now) (sight g.O.Output c.print.new.out)
          c.in_err-print.field-0.0 c.from_residual-in_err-print.result c.from_residual-in_err-print.ensures.1 (c.in_err-print.ensures.prints last texts shows);
    }

pub returns : goal.returns
returns g c =
    let start = c.args.start.now in
    record {
      prints = λ last texts shows.
          line_ended g.C.Exclusion.core g.C.Msg.Letter.parts c.args.showing.now.plan.now c.args.showing.now.view.now g.C.Knowledge.knows start last texts c.args.line _ _ c.as_str.result.now
          (sym c.shows_asides.ensures ∙ c.if-not-shows_asides.false) c.new-fault.ensures.bytes c.as_str.ensures.value c.in_ok-add_refused.ensures (sight g.O.Output c.args.out.now) (sight g.O.Output c.print.new.out)
          c.in_ok-print.field-0 c.stop_with-2.result c.stop_with-2.ensures (c.in_ok-print.ensures.prints last texts shows);
    }
