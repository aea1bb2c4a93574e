use Rattle.mx_cli.specs.Reading.{is_dash}
use Rattle.mx_cli.specs.Reports.{seen}
use Rattle.mx_play.specs.Lines.{session_lines}
use Rattle.mx_play.proofs.PlayedLemmas.{by_left}
use Rattle.mx_play.proofs.command.play.Goals as goal

pub returns-in-Ok-clause-played : goal.returns-in-Ok-clause-played
returns-in-Ok-clause-played g c =
    let start = c.in-Ok.start in
    let lines = session_lines (is_dash c.args.plan.now) (g.L.Lines.rest c.args.lines.now) in
    let new = seen g.O.Output g.E.Output c.play_and_close.new.out c.play_and_close.new.err in
    record {
      played = λ zero. (
        start.plan,
        start.text.items,
        c.in-Ok.ensures.plan,
        c.in-Ok.ensures.script,
        by_left start.plan start.text.items (seen g.O.Output g.E.Output c.args.out.now c.args.err.now) new new (g.W.Store.stored c.args.store.now) (g.W.Store.stored c.play_and_close.new.store) lines (g.L.Lines.rest c.fetch_start.new.lines) start.plan.shape
            c.in-Ok.ensures.left (c.play_and_close.ensures.played zero),
      );
      passed = c.play_and_close.ensures.passed;
      status_is = c.play_and_close.ensures.status;
    }
