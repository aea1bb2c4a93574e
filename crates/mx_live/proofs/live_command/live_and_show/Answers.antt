use Rattle.std.proofs.Common.{refl, subst, sym}
use Rattle.mx_live.proofs.ErrorLemmas.{Halted, plan_halts}
use Rattle.mx_live.proofs.ProgressLemmas.{tells_none}
use Rattle.mx_live.proofs.live_command.live_and_show.Goals as goal

pub returns-in-Ok : goal.returns-in-Ok
returns-in-Ok g c = record {
  ends = c.live_plan.ensures.ends (g.S.Source.told c.args.source.now c.args.plan.now) c.in-Ok.ensures.told;
  progress = c.live_plan.ensures.progress;
  stays = c.live_plan.ensures.stays;
  asks = c.in-Ok.ensures.asks;
}

pub returns-in-Err : goal.returns-in-Err
returns-in-Err g c =
    let t = g.O.Output.takes_all c.args.out.now in
    let told = g.S.Source.told c.args.source.now c.args.plan.now in
    let request = c.args.options.now in
    let held = g.O.Output.written c.args.out.now in
    record {
      ends = subst (λ error. Halted t told request held held error) (sym c.unread_error.ensures) (plan_halts t told request c.in-Err.stop held c.in-Err.ensures.told);
      progress = tells_none c.args.options.now.progress _;
      stays = refl;
      asks = c.in-Err.ensures.asks;
    }
