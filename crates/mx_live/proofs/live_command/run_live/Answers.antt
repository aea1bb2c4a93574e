use Rattle.std.proofs.Common.{Bool, Ok, Err, refl, subst}
use Rattle.mx_cli.proofs.OutputLemmas.{Keeps-refl}
use Rattle.mx_live.specs.LiveErrors.{ReportsError}
use Rattle.mx_live.proofs.ErrorLemmas.{ends_whole}
use Rattle.mx_live.proofs.live_command.run_live.Goals as goal

pub returns-in-Ok : goal.returns-in-Ok
returns-in-Ok g c =
    let ran = c.in-Ok.ensures in
    record {
      lives = record {
        ended = Ok tt;
        ends = ran.ends;
        after_progress = g.E.Output.written c.live_and_show.new.err;
        progress = ran.progress;
        closes = (refl, Keeps-refl (g.E.Output.written c.live_and_show.new.err));
        whole = ends_whole (g.O.Output.takes_all c.args.out.now) (g.S.Source.told c.args.source.now c.args.plan.now) c.args.options.now
            (Ok tt) (g.O.Output.written c.args.out.now) (g.O.Output.written c.live_and_show.new.out) (g.O.Output.keeps_back c.live_and_show.new.out) ran.ends;
      };
      asks = ran.asks;
    }

pub returns-in-Err : goal.returns-in-Err
returns-in-Err g c =
    let ran = c.in-Err.ensures in
    record {
      lives = record {
        ended = Err c.in-Err.error;
        ends = ran.ends;
        after_progress = g.E.Output.written c.live_and_show.new.err;
        progress = ran.progress;
        closes = subst (λ (takes : Bool). ReportsError takes c.args.plan.now c.in-Err.error (g.E.Output.written c.live_and_show.new.err) (g.E.Output.written c.report_error.new.err) c.report_error.result)
            ran.stays c.report_error.ensures;
        whole = ends_whole (g.O.Output.takes_all c.args.out.now) (g.S.Source.told c.args.source.now c.args.plan.now) c.args.options.now
            (Err c.in-Err.error) (g.O.Output.written c.args.out.now) (g.O.Output.written c.live_and_show.new.out) (g.O.Output.keeps_back c.live_and_show.new.out) ran.ends;
      };
      asks = ran.asks;
    }
