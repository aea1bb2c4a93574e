use Rattle.std.proofs.Common.{◌≡◌}
use Rattle.mx_format.specs.LetterTexts.{letter_text}
use Rattle.mx_cli.specs.Reports.{seen}
use Rattle.mx_play.specs.Sessions.{IsSession}
use Rattle.mx_play.proofs.PlaysLemmas.{Running}
use Rattle.mx_play.proofs.StopLemmas.{Left}
use Rattle.mx_play.proofs.session_run.run_lines.Given as goal

abbrev pub invariant-loop-number : goal.invariant-loop-number
invariant-loop-number g l = record {
  run : Running g.C.Exclusion.core (letter_text g.C.Msg.Letter.parts) g.C.Knowledge.knows l.setting.plan.now l.setting.shape.now l.first l.number
      (g.L.Lines.rest l.initial.lines) (g.L.Lines.rest l.lines) l.initial.session l.session
      (seen g.O.Output g.E.Output l.initial.out l.initial.err) (seen g.O.Output g.E.Output l.out l.err)
      (g.W.Store.stored l.initial.store) (g.W.Store.stored l.store);
  is : IsSession g.C.Exclusion.core l.setting.plan.now l.setting.shape.now l.session;
  left : Left l.first l.number (g.L.Lines.readable l.initial.lines) (g.L.Lines.readable l.lines);
  out_stays : g.O.Output.takes_all l.out ≡ g.O.Output.takes_all l.initial.out;
  err_stays : g.E.Output.takes_all l.err ≡ g.E.Output.takes_all l.initial.err;
}
